-- The text of an explanation.
use Rattle.std.specs.Prelude.{◌≡◌, ℕ, ◌-◌, IfSome, List, [], ◌∷◌, ◌++◌, Option, Some, None, codes, drop, length, map, max, min, replicate, take, if◌then◌else◌}
use Rattle.std.specs.Fmt.{decimal}
use Rattle.strm_script_text.specs.Bytes.{is_blank, is_within}
use Rattle.strm_script_parse.specs.declared.fault.ScriptFault.{ScriptFault}
use Rattle.strm_script_explain.specs.Shown.{IsShown}
use Rattle.strm_script_explain.specs.declared.explaining.Explanation.{Explanation}
use Rattle.strm_script_explain.specs.declared.explaining.Shown.{Shown}
use Rattle.strm_script_explain.specs.declared.printing.TheConstants.{BEFORE, WINDOW}

-- a byte as it is shown: a tab as a blank, and one that is no printable ASCII as `?`
abbrev pub shown : ℕ → ℕ
shown byte = if is_blank byte then 32 else if is_within 33 126 byte then byte else 63

-- `:` and a number
abbrev pub colon_number : ℕ → List ℕ
colon_number n = codes ":" ++ decimal n

-- the number of bytes in front of those that are shown of a line of this length, whose mark has `before` bytes
-- in front of it
abbrev pub hidden : ℕ → ℕ → ℕ
hidden len before = min (before - BEFORE) (len - WINDOW)

-- a line, of which so many bytes are hidden in front
abbrev pub line_text : List ℕ → ℕ → List ℕ
line_text line hides = codes "  " ++ map shown (take WINDOW (drop hides line)) ++ 10 ∷ []

-- a mark with `before` bytes in front of it; one of no width is one byte wide
abbrev pub mark_text : ℕ → ℕ → List ℕ
mark_text before width = codes "  " ++ replicate before 32 ++ replicate (max (min width (WINDOW - before)) 1) 94 ++ 10 ∷ []

-- a line, as far as it is shown, and the mark under it
abbrev pub shown_text : Shown → List ℕ
shown_text s =
    let before = s.column - 1 in
    let hides = hidden (length s.line.now) before in
    line_text s.line.now hides ++ mark_text (before - hides) s.width

-- the number of a line, and the column of its mark
abbrev pub place_text : Option Shown → List ℕ
place_text None = []
place_text (Some s) = colon_number s.number ++ colon_number s.column

-- the lines below the words
abbrev pub below_text : Option Shown → List ℕ
below_text None = []
below_text (Some s) = shown_text s

-- the text of an explanation, for a script of this name
abbrev pub explanation_text : List ℕ → Explanation → List ℕ
explanation_text name e =
    map shown name ++ place_text e.shown ++ codes ": " ++ e.words.items ++ 10 ∷ [] ++ below_text e.shown

-- a text is an explanation of a fault of a script of this name
pub record Explains (name bytes : List ℕ) (fault : ScriptFault) (text : List ℕ) : Type 0 where
  pub explanation : Explanation
  pub shown : IfSome explanation.shown (IsShown bytes fault)
  pub text_is : text ≡ explanation_text name explanation
