-- Lines that were read, and sections that were.
use Rattle.std.proofs.Common.{◌≡◌, inl, inr, ℕ, suc, ◌+◌, ◌<◌, ◌≤◌, ◌==◌, nat_le, true, List, [], ◌∷◌, ◌++◌, length, map, take, get_or, slice_get, Vec, All, Result, Ok, Err, IfOk, IfErr, refl, sym, ap, subst, ◌∙◌, arith}
use Rattle.std.specs.Global.{Global}
use Rattle.std.specs.List.{flat_map}
use Rattle.std.specs.Str.Lines.{lines}
use Rattle.std.proofs.Math.ListN.{get_or-map}
use Rattle.std.proofs.Math.Seq.{take-append_seam, take-length}
use Rattle.std.proofs.lemmas.Bool.{eqb-true, leb-true, and_parts}
use Rattle.std.proofs.lemmas.List.{append-nil, append_assoc, get_or_default, length-append, length-map, nil_from_length}
use Rattle.std.proofs.lemmas.List.Elements.{All-append}
use Rattle.strm_script_words.specs.Naming.{KindWords}
use Rattle.strm_msg.specs.declared.memory.NoMem.{NoMem}
use Rattle.strm_module.specs.declared.shape.Shape.{Shape}
use Rattle.strm_script_parse.specs.Plan.{Call, Linked, Streams, Whole, Partial, Place, Nowhere, In_process, In_feed, plan_view}
use Rattle.strm_script_parse.specs.Reading.{FaultAt, line_onto, lines_onto, nothing_yet, plan_of}
use Rattle.strm_script_parse.specs.Sound.{end_is_there, AreCallsThere, IsSound}
use Rattle.strm_script_parse.specs.Spelling.{Spells}
use Rattle.strm_script_parse.specs.declared.plan.Plan.{Plan}
use Rattle.strm_script_parse.specs.Draft.{IsDraft, IsAt, IsPlaceThere, IsUnled, AreGoing, going}
use Rattle.strm_script_parse.specs.Section.{takes, HasRoom, called, with_calls, IsMore, AddCalls, AreRead, IsSection, IsFaultOfLine, IsFaultOfLines}
use Rattle.strm_script_parse.specs.declared.draft.TheConstants.{MOST_CALLS}
use Rattle.strm_script_parse.specs.declared.section.Section.{Section}
use Rattle.strm_script_parse.specs.declared.fault.ScriptFault.{ScriptFault}
use Rattle.strm_script_parse.proofs.LineLemmas.{one_more, one_fault}
use Rattle.strm_script_parse.proofs.SoundLemmas.{line_keeps, lines_sound, nothing_kept}
use Rattle.strm_script_parse.proofs.LinkedLemmas.{linked_by}
use Rattle.strm_script_parse.proofs.ThereLemmas.{awaits_stay}

-- ---- streams that are declared one after another

pub more_of_more : (one two three : Streams) → IsMore one two → IsMore two three → IsMore one three
more_of_more one two three first second =
    (first.0 ++ second.0, second.1 ∙ ap (λ (s : Streams). s ++ second.0) first.1 ∙ append_assoc one first.0 second.0)

-- the first of them stay
pub first_stay : (some all : Streams) (many : ℕ) → IsMore some all → many ≡ length some → take many all ≡ some
first_stay some all many more is = ap (λ (n : ℕ). take n all) is ∙ ap (λ (s : Streams). take (length some) s) more.1 ∙ take-append_seam some more.0

-- where there are no more, they are the same
same_streams : (some all : Streams) (many : ℕ) → many ≤ length some → IsMore some all → length all ≡ many → all ≡ take many some
same_streams some all many few more is =
    let count : length all ≡ length some + length more.0 = ap (λ (s : Streams). length s) more.1 ∙ length-append some more.0 in
    let none : more.0 ≡ [] = nil_from_length more.0 (omega (arith, count, few, is)) in
    let same : all ≡ some = more.1 ∙ ap (λ (s : Streams). some ++ s) none ∙ append-nil some in
    let whole : many ≡ length some = omega (arith, count, few, is) in
    same ∙ sym (ap (λ (n : ℕ). take n some) whole ∙ take-length some)

-- ---- calls of the process that goes on

takes_room : {K : Type 0} (place : Place K) (many : ℕ) → takes place many ≡ true → HasRoom place many
takes_room Nowhere many is = absurd cc
takes_room (In_process process) many is =
    let both = and_parts (length process.calls == 0) (nat_le many MOST_CALLS) is in
    omega (arith, eqb-true (length process.calls) 0 both.0, leb-true many MOST_CALLS both.1)
takes_room (In_feed feed) many is = absurd cc

going_on : {K : Type 0} (place : Place K) (calls : List (Call K)) → going (called place calls) ≡ going place
going_on Nowhere calls = refl
going_on (In_process process) calls = refl
going_on (In_feed feed) calls = refl

are_going : {K : Type 0} (place : Place K) (calls : List (Call K)) → AreGoing place → AreGoing (called place calls)
are_going Nowhere calls are = are
are_going (In_process process) calls are = are
are_going (In_feed feed) calls are = are

place_there : {K : Type 0} (streams : Streams) (d : Partial K) (place : Place K) (calls : List (Call K)) → IsPlaceThere streams d.feeds place → AreCallsThere streams calls → IsPlaceThere streams d.feeds (called place calls)
place_there streams d Nowhere calls there are = there
place_there {K} streams d (In_process process) calls there are =
    (All-append (λ (call : Call K). end_is_there (slice_get streams call.stream) call.end ≡ true) process.calls calls there.0 are, awaits_stay streams process calls process.expected there.1)
place_there streams d (In_feed feed) calls there are = there

still_unled : {K : Type 0} (links : List Linked) (place : Place K) (calls : List (Call K)) → IsUnled links place → IsUnled links (called place calls)
still_unled links Nowhere calls none = tt
still_unled links (In_process process) calls none = tt
still_unled links (In_feed feed) calls none = none

calls_kept : {K : Type 0} (d : Partial K) (calls : List (Call K)) → IsDraft d → AreCallsThere d.streams calls → IsDraft (with_calls d calls)
calls_kept d calls k are = record {
  setups = k.setups;
  few_streams = k.few_streams;
  few_processes = omega (arith, k.few_processes, going_on d.place calls);
  messages = k.messages;
  going_on = are_going d.place calls k.going_on;
  there = record { calls = k.there.calls; awaits = k.there.awaits; lines = k.there.lines; once = k.there.once; going_on = place_there d.streams d d.place calls k.there.going_on are; links = linked_by d.streams d.feeds (length d.processes + going d.place) (length d.processes + going (called d.place calls)) d.links (omega (arith, going_on d.place calls)) k.there.links; unled = still_unled d.links d.place calls k.there.unled };
}

-- ---- a line, and those behind it

module _ {K : Type 0} (words : KindWords K) where
  pub line_at : (n : ℕ) (d e : Partial K) (line : List ℕ) → IsAt n d → line_onto words (n + 1) d line ≡ Ok e → IsAt (n + 1) e
  line_at n d e line stands is =
      let keeps = line_keeps words (n + 1) d e line is stands.kept in
      record { kept = keeps.kept; modules = omega (arith, keeps.modules, stands.modules) }

  pub line_more : (d e f : Partial K) (n : ℕ) (line : List ℕ) → IsAt n d → line_onto words (n + 1) d line ≡ Ok e → IsMore e.streams f.streams → IsMore d.streams f.streams
  line_more d e f n line stands is more = more_of_more d.streams e.streams f.streams (line_keeps words (n + 1) d e line is stands.kept).streams more

  pub line_after : (some : Streams) (d e : Partial K) (n : ℕ) (line : List ℕ) → IsAt n d → line_onto words (n + 1) d line ≡ Ok e → IsMore some d.streams → IsMore some e.streams
  line_after some d e n line stands is more = more_of_more some d.streams e.streams more (line_keeps words (n + 1) d e line is stands.kept).streams

  module _ (n : ℕ) (d : Partial K) (text line rest : List ℕ) (first : lines text ≡ line ∷ lines rest) where
    behind : (others : List (List ℕ)) → lines text ++ others ≡ line ∷ (lines rest ++ others)
    behind others = ap (λ (l : List (List ℕ)). l ++ others) first

    pub first_more : (e : Partial K) (others : List (List ℕ)) → line_onto words (n + 1) d line ≡ Ok e → lines_onto words n d (lines text ++ others) ≡ lines_onto words (n + 1) e (lines rest ++ others)
    first_more e others is = one_more words n d (lines text ++ others) (lines rest ++ others) line (behind others) e is

    pub first_fault : (fault : ScriptFault) → IsFaultOfLine words n d line fault → IsFaultOfLines words n d text fault
    first_fault fault (inl memory) = inl memory
    first_fault fault (inr is) = inr (λ others.
        one_fault words n d (lines text ++ others) (lines rest ++ others) line (behind others) fault.cause is.1
        ∙ ap (λ (k : ℕ). Err (record { line = k; cause = fault.cause })) (sym is.0))

    pub read_behind : (e f : Partial K) (m : ℕ) → IsAt n d → line_onto words (n + 1) d line ≡ Ok e → length rest < length text → AreRead words (n + 1) e rest m f → AreRead words n d text m f
    read_behind e f m stands is shorter read = record {
      onto = λ others. first_more e others is ∙ read.onto others;
      few = omega (arith, read.few, shorter);
      stands = read.stands;
      streams = line_more d e f n line stands is read.streams;
    }

    pub section_read : (e : Partial K) (streams : ℕ) (calls : List (Call K)) (many : ℕ) → IsAt n d → line_onto words (n + 1) d line ≡ Ok e → streams ≤ length d.streams → length e.streams ≡ streams → takes e.place (length calls) ≡ true → AddCalls words (take streams d.streams) (lines rest) calls many → many < length text → AreRead words n d text (n + 1 + many) (with_calls e calls)
    section_read e streams calls many stands is declared none room add few =
        let keeps = line_keeps words (n + 1) d e line is stands.kept in
        let same = same_streams d.streams e.streams streams declared keeps.streams none in
        record {
          onto = λ others. first_more e others is ∙ add.onto (n + 1) e others same (takes_room e.place (length calls) room);
          few = omega (arith, few);
          stands = record {
            kept = calls_kept e calls keeps.kept (subst (λ (s : Streams). AreCallsThere s calls) (sym same) add.there);
            modules = omega (arith, keeps.modules, stands.modules);
          };
          streams = keeps.streams;
        }

  -- a fault among the lines that others follow
  pub later_fault : (n m : ℕ) (d e : Partial K) (text rest : List ℕ) (fault : ScriptFault) → ((others : List (List ℕ)) → lines_onto words n d (lines text ++ others) ≡ lines_onto words m e (lines rest ++ others)) → IsFaultOfLines words m e rest fault → IsFaultOfLines words n d text fault
  later_fault n m d e text rest fault onto (inl memory) = inl memory
  later_fault n m d e text rest fault onto (inr is) = inr (λ others. onto others ∙ is others)

-- a fault that was told
pub told : {T : Type 0} (r : Result T ScriptFault) (fault : ScriptFault) (P : ScriptFault → Type 0) → r ≡ Err fault → P fault → IfErr r P
told r fault P is holds = subst (λ r. IfErr r P) (sym is) holds

-- what holds of each value, or of each fault
pub each_ok : {T E : Type 0} (r : Result T E) (P Q : T → Type 0) → ((x : T) → P x → Q x) → IfOk r P → IfOk r Q
each_ok (Ok x) P Q goes holds = goes x holds
each_ok (Err error) P Q goes holds = tt

pub each_err : {T E : Type 0} (r : Result T E) (P Q : E → Type 0) → ((x : E) → P x → Q x) → IfErr r P → IfErr r Q
each_err (Ok x) P Q goes holds = tt
each_err (Err error) P Q goes holds = goes error holds

-- sections of which each has the text of the other at its place
same_texts : {P A : Type 0} (f : List ℕ → List A) (some other : List (Section P)) → length some ≡ length other → ((k : ℕ) (d e : Section P) → k < length some → (get_or some k d).text.now ≡ (get_or other k e).text.now) → flat_map (λ section. f section.text.now) some ≡ flat_map (λ section. f section.text.now) other
same_texts f [] [] many each = refl
same_texts f [] (section ∷ other) many each = absurd (omega arith)
same_texts f (section ∷ some) [] many each = absurd (omega arith)
same_texts f (section ∷ some) (its ∷ other) many each =
    let rest = same_texts f some other (omega arith) (λ k d e within. each (suc k) d e (omega arith)) in
    ap (λ text. f text ++ flat_map (λ section. f section.text.now) some) (each 0 section its (omega arith)) ∙ ap (λ l. f its.text.now ++ l) rest

-- ---- a whole script

module _ {K : Type 0} (words : KindWords K) where
  -- what all lines spell is a plan of which a run can be made
  pub spelt_sound : (all : List (List ℕ)) (r : Result (Plan (Shape K)) ScriptFault) → Spells r (lines_onto words 0 nothing_yet all) → IfOk r (λ plan. IsSound (plan_view plan))
  spelt_sound all (Ok plan) is = lines_sound words all 0 nothing_yet (plan_view plan) is nothing_kept
  spelt_sound all (Err fault) is = tt

  -- the plan that was made of the lines of a text, behind which no others stand
  pub spells_whole : (n m : ℕ) (d e : Partial K) (text : List ℕ) (r : Result (Plan (Shape K)) ScriptFault) → AreRead words n d text m e → Spells r (Ok (plan_of e)) → Spells r (lines_onto words n d (lines text))
  unfolding lines_onto
  spells_whole n m d e text r read is =
      let whole = ap (lines_onto words n d) (sym (append-nil (lines text))) ∙ read.onto [] in
      subst (λ (s : Result (Whole K) FaultAt). Spells r s) (sym whole) is

  pub spells_fault : (n : ℕ) (d : Partial K) (text : List ℕ) (others : List (List ℕ)) (r : Result (Plan (Shape K)) ScriptFault) (fault : ScriptFault) → r ≡ Err fault → IsFaultOfLines words n d text fault → Spells r (lines_onto words n d (lines text ++ others))
  spells_fault n d text others r fault is (inl memory) = subst (λ r. Spells r (lines_onto words n d (lines text ++ others))) (sym is) (inl memory)
  spells_fault n d text others r fault is (inr there) = subst (λ r. Spells r (lines_onto words n d (lines text ++ others))) (sym is) (inr (there others))

  -- the plan that was made, behind which no sections are left
  pub spells_all : (n m : ℕ) (d e : Partial K) (all others : List (List ℕ)) (r : Result (Plan (Shape K)) ScriptFault) → lines_onto words n d all ≡ lines_onto words m e others → length others ≡ 0 → Spells r (Ok (plan_of e)) → Spells r (lines_onto words n d all)
  unfolding lines_onto
  spells_all n m d e all others r onto none is =
      let whole = onto ∙ ap (lines_onto words m e) (nil_from_length others none) in
      subst (λ (s : Result (Whole K) FaultAt). Spells r s) (sym whole) is

  -- ---- sections that were read

  -- the section of this number was read, unless memory was wanting
  pub record IsMade (streams : Streams) (jobs : List (Section (Shape K))) (k : ℕ) (one : Result (Section (Shape K)) NoMem) : Type 0 where
    pub job : Section (Shape K)
    pub job_is : (d : Section (Shape K)) → get_or jobs k d ≡ job
    pub text : IfOk one (λ read. read.text.now ≡ job.text.now)
    pub section : IfOk one (λ read. IsSection words streams read)

  module _ (streams : Streams) (jobs : List (Section (Shape K))) (made : List (Result (Section (Shape K)) NoMem)) (many : length made ≡ length jobs) (each : (k : ℕ) (d : Result (Section (Shape K)) NoMem) → k < length jobs → IsMade streams jobs k (get_or made k d)) where
    count : (all : List (Section (Shape K))) → map Ok all ≡ made → length all ≡ length jobs
    count all are =
        let ok : Section (Shape K) → Result (Section (Shape K)) NoMem = λ section. Ok section in
        sym (length-map all ok) ∙ ap (λ l. length l) are ∙ many

    there : (all : List (Section (Shape K))) → map Ok all ≡ made → (k : ℕ) (d : Section (Shape K)) → k < length all → ((get_or all k d).text.now ≡ (get_or jobs k d).text.now) × IsSection words streams (get_or all k d)
    there all are k d within =
        let ok : Section (Shape K) → Result (Section (Shape K)) NoMem = λ section. Ok section in
        let one = each k (Ok d) (omega (arith, within, count all are)) in
        let is : get_or made k (Ok d) ≡ Ok (get_or all k d) = ap (λ l. get_or l k (Ok d)) (sym are) ∙ get_or-map ok all k d in
        let text = subst (λ (r : Result (Section (Shape K)) NoMem). IfOk r (λ read. read.text.now ≡ one.job.text.now)) is one.text in
        let section = subst (λ (r : Result (Section (Shape K)) NoMem). IfOk r (λ read. IsSection words streams read)) is one.section in
        (text ∙ ap (λ (job : Section (Shape K)). job.text.now) (sym (one.job_is d)), section)

    pub sections_text : {A : Type 0} (f : List ℕ → List A) (r : Result (Vec (Section (Shape K)) Global) NoMem) (whole : List A) → flat_map (λ section. f section.text.now) jobs ≡ whole → IfOk r (λ all. map Ok all.items ≡ made) → IfOk r (λ all. flat_map (λ section. f section.text.now) all.items ≡ whole)
    sections_text f (Ok all) whole is are = same_texts f all.items jobs (count all.items are) (λ k d e within. (there all.items are k d within).0 ∙ ap (λ (job : Section (Shape K)). job.text.now) (get_or_default jobs k d e (omega (arith, within, count all.items are)))) ∙ is
    sections_text f (Err error) whole is are = tt

    pub are_sections : (r : Result (Vec (Section (Shape K)) Global) NoMem) → IfOk r (λ all. map Ok all.items ≡ made) → IfOk r (λ all. All (IsSection words streams) all.items)
    are_sections (Ok all) are = λ k d within. (there all.items are k d within).1
    are_sections (Err error) are = tt
