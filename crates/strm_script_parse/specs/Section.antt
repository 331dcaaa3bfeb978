-- The sections of a script: a process line, and the lines behind it up to the next one. A section is read
-- apart if these lines are calls.
use Rattle.std.specs.Prelude.{◌≡◌, ◌⊎◌, ℕ, ◌+◌, ◌<◌, ◌≤◌, ◌==◌, ◌&&◌, nat_le, Bool, false, List, [], ◌∷◌, ◌++◌, length, map, IfSome, Result, Ok, Err, ⊤}
use Rattle.std.specs.List.{flat_map}
use Rattle.std.specs.Str.Lines.{lines}
use Rattle.strm_module.specs.declared.shape.Shape.{Shape}
use Rattle.strm_script_words.specs.Naming.{KindWords}
use Rattle.strm_script_words.specs.declared.fault.Cause.{Cause}
use Rattle.strm_script_parse.specs.Plan.{Call, Streams, Partial, Place, Nowhere, In_process, In_feed, call_view, draft_view}
use Rattle.strm_script_parse.specs.Reading.{line_onto, lines_onto}
use Rattle.strm_script_parse.specs.Sound.{AreCallsThere}
use Rattle.strm_script_parse.specs.Draft.{IsAt}
use Rattle.strm_script_parse.specs.Spelling.{IsNoMemory}
use Rattle.strm_script_parse.specs.declared.draft.Draft.{Draft}
use Rattle.strm_script_parse.specs.declared.draft.TheConstants.{MOST_CALLS}
use Rattle.strm_script_parse.specs.declared.fault.ScriptFault.{ScriptFault}
use Rattle.strm_script_parse.specs.declared.section.Said.{Said}
use Rattle.strm_script_parse.specs.declared.section.Calls.{Calls}
use Rattle.strm_script_parse.specs.declared.section.Section.{Section}

-- whether a process goes on that has no call yet and may have that many
abbrev pub takes : {K : Type 0} → Place K → ℕ → Bool
takes Nowhere many = false
takes (In_process process) many = (length process.calls == 0) && nat_le many MOST_CALLS
takes (In_feed feed) many = false

-- a process goes on, and may have that many more calls
abbrev pub HasRoom : {K : Type 0} → Place K → ℕ → Type 0
HasRoom Nowhere many = ⊥
HasRoom (In_process process) many = length process.calls + many ≤ MOST_CALLS
HasRoom (In_feed feed) many = ⊥

-- the process that goes on, with these calls more
abbrev pub called : {K : Type 0} → Place K → List (Call K) → Place K
called Nowhere calls = Nowhere
called (In_process process) calls = In_process (record process { calls = process.calls ++ calls })
called (In_feed feed) calls = In_feed feed

abbrev pub with_calls : {K : Type 0} → Partial K → List (Call K) → Partial K
with_calls d calls = record d { place = called d.place calls }

-- the text of sections, one after another, and its lines
abbrev pub whole_text : {P : Type 0} → List (Section P) → List ℕ
whole_text sections = flat_map (λ section. section.text.now) sections

abbrev pub whole_lines : {P : Type 0} → List (Section P) → List (List ℕ)
whole_lines sections = flat_map (λ section. lines section.text.now) sections

-- the same streams, with others behind them
abbrev pub IsMore : Streams → Streams → Type 0
IsMore streams all = (more : Streams) × (all ≡ streams ++ more)

-- on these streams the reading of a line, whichever number it has, adds these calls to the process that goes
-- on, and changes nothing else
pub record AddsCalls {K : Type 0} (streams : Streams) (read : ℕ → Partial K → Result (Partial K) Cause) (calls : List (Call K)) : Type 0 where
  pub onto : (n : ℕ) (d : Partial K) → d.streams ≡ streams → HasRoom d.place (length calls) → read n d ≡ Ok (with_calls d calls)
  pub there : AreCallsThere streams calls

-- the promise of a line that is read apart: it adds no call, or one
abbrev pub Says : {K : Type 0} → Streams → (ℕ → Partial K → Result (Partial K) Cause) → Said (Shape K) → Type 0
Says streams read Said.Nothing = AddsCalls streams read []
Says streams read (Said.Call call) = AddsCalls streams read (call_view call ∷ [])
Says streams read Said.Other = ⊤

module _ {K : Type 0} (words : KindWords K) where
  -- on these streams that many lines add these calls to the process that goes on, and change nothing else
  pub record AddCalls (streams : Streams) (all : List (List ℕ)) (calls : List (Call K)) (many : ℕ) : Type 0 where
    pub onto : (n : ℕ) (d : Partial K) (others : List (List ℕ)) → d.streams ≡ streams → HasRoom d.place (length calls) → lines_onto words n d (all ++ others) ≡ lines_onto words (n + many) (with_calls d calls) others
    pub there : AreCallsThere streams calls

  -- the calls of a text
  pub record AreCalls (streams : Streams) (text : List ℕ) (calls : Calls (Shape K)) : Type 0 where
    pub add : AddCalls streams (lines text) (map call_view calls.calls) calls.lines
    pub few : calls.lines ≤ length text

  -- the calls of a section, in the lines behind its first
  pub record AreCallsBehind (streams : Streams) (text : List ℕ) (calls : Calls (Shape K)) : Type 0 where
    pub add : (line : List ℕ) (others : List (List ℕ)) → lines text ≡ line ∷ others → AddCalls streams others (map call_view calls.calls) calls.lines
    pub few : calls.lines < length text

  pub record IsSection (streams : Streams) (section : Section (Shape K)) : Type 0 where
    pub some : 0 < length section.text.now
    pub calls : IfSome section.calls (λ calls. AreCallsBehind streams section.text.now calls)

  -- the lines of a text were read onto the plan of n lines, which gives the plan of m lines; the next lines
  -- go onto that
  pub record AreRead (n : ℕ) (d : Partial K) (text : List ℕ) (m : ℕ) (e : Partial K) : Type 0 where
    pub onto : (others : List (List ℕ)) → lines_onto words n d (lines text ++ others) ≡ lines_onto words m e others
    pub few : m ≤ n + length text
    pub stands : IsAt m e
    pub streams : IsMore d.streams e.streams

  -- the fault of a line that has that many lines before it, or out of memory
  abbrev pub IsFaultOfLine : ℕ → Partial K → List ℕ → ScriptFault → Type 0
  IsFaultOfLine n d line fault = IsNoMemory fault ⊎ ((fault.line ≡ n + 1) × (line_onto words (n + 1) d line ≡ Err fault.cause))

  -- the first fault of the lines of a text that has that many lines before it, or out of memory
  abbrev pub IsFaultOfLines : ℕ → Partial K → List ℕ → ScriptFault → Type 0
  IsFaultOfLines n d text fault =
      IsNoMemory fault ⊎ ((others : List (List ℕ)) → lines_onto words n d (lines text ++ others) ≡ Err (record { line = fault.line; cause = fault.cause }))

  -- ---- the same of drafts

  -- the new draft is the old one of n lines with this line
  abbrev pub HasReadLine : ℕ → Draft (Shape K) → List ℕ → Draft (Shape K) → Type 0
  HasReadLine n old line new = line_onto words (n + 1) (draft_view old) line ≡ Ok (draft_view new)

  abbrev pub HasLineFault : ℕ → Draft (Shape K) → List ℕ → ScriptFault → Type 0
  HasLineFault n old line fault = IsFaultOfLine n (draft_view old) line fault

  -- the new draft is the old one of n lines with the lines of a text, and has m lines
  abbrev pub HasRead : ℕ → Draft (Shape K) → List ℕ → Draft (Shape K) → ℕ → Type 0
  HasRead n old text new m = AreRead n (draft_view old) text m (draft_view new)

  abbrev pub HasFault : ℕ → Draft (Shape K) → List ℕ → ScriptFault → Type 0
  HasFault n old text fault = IsFaultOfLines n (draft_view old) text fault
