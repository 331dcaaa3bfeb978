-- The lines of links: what was taken from a wire, step by step, and the streams of a number.
use Rattle.std.proofs.Common.{◌≡◌, ◌∙◌, ℕ, zero, suc, ◌+◌, ◌<◌, ◌≤◌, Bool, true, false, is_some, Option, Some, None, List, [], ◌∷◌, length, length-append, slice_get, get_or, take, refl, ap, sym, arith}
use native.Mathlib.Numerals.{unary_clauses}
use Rattle.std.specs.Option.{option_to_list}
use Rattle.strm_msg.specs.Message.{Msg}
use Rattle.strm_shared_entry.specs.Entry.{Entry, is_caller}
use Rattle.strm_shared_entry.specs.Own.{own}
use Rattle.strm_shared_entry.specs.Taken.{taken, taken_by}
use Rattle.strm_shared_entry.specs.Logs.{history_at}
use Rattle.strm_shared_entry.specs.declared.transcript.StreamLog.{StreamLog}

-- how much one step counts for a caller
abbrev pub count_of : Bool → Bool → ℕ
count_of true true = 1
count_of mine took = 0

one_taken : (m : Option Msg) (rest : ℕ) → length (option_to_list m) + rest ≡ count_of true (is_some m) + rest
one_taken None rest = refl
one_taken (Some m) rest = refl

-- the first of some steps
first_counted : {K : Type 0} (caller : ℕ) (entry : Entry K) (rest : List (Entry K)) (mine : Bool) → is_caller caller entry.who ≡ mine → length (taken (own caller (entry ∷ rest))) ≡ count_of mine (is_some (taken_by entry.event entry.answer)) + length (taken (own caller rest))
first_counted caller entry rest true is =
    rw is (length-append (option_to_list (taken_by entry.event entry.answer)) (taken (own caller rest)) ∙ one_taken (taken_by entry.event entry.answer) (length (taken (own caller rest))))
first_counted caller entry rest false is = rw is (omega arith)

count_few : (mine took : Bool) → count_of mine took ≤ 1
count_few true true = omega arith
count_few true false = omega arith
count_few false took = omega arith

counted_behind : {K : Type 0} (caller : ℕ) (history : List (Entry K)) (number : ℕ) (entry : Entry K) → slice_get history number ≡ Some entry → length (taken (own caller (take (suc number) history))) ≡ length (taken (own caller (take number history))) + count_of (is_caller caller entry.who) (is_some (taken_by entry.event entry.answer))
counted_behind caller [] number entry is = absurd cc
counted_behind caller (first ∷ rest) zero entry is =
    let same : first ≡ entry = cc in
    rw (sym same) (omega (arith, first_counted caller first [] (is_caller caller first.who) refl))
counted_behind caller (first ∷ rest) (suc number) entry is =
    omega (arith, first_counted caller first (take (suc number) rest) (is_caller caller first.who) refl, first_counted caller first (take number rest) (is_caller caller first.who) refl, counted_behind caller rest number entry is)

-- one step more
pub one_counted : {K : Type 0} (caller : ℕ) (history : List (Entry K)) (number : ℕ) (entry : Entry K) → slice_get history number ≡ Some entry → length (taken (own caller (take (number + 1) history))) ≡ length (taken (own caller (take number history))) + count_of (is_caller caller entry.who) (is_some (taken_by entry.event entry.answer))
one_counted caller history number entry is = simp unary_clauses (counted_behind caller history number entry is)

-- the history of a log that is there
pub history_found : {K : Type 0} (logs : List (StreamLog K)) (number : ℕ) (log : StreamLog K) → number < length logs → ((d : StreamLog K) → log ≡ get_or logs number d) → log.history.items ≡ history_at logs number
history_found [] number log few is = absurd (omega (arith, few))
history_found (first ∷ rest) zero log few is = ap (λ (l : StreamLog _). l.history.items) (is first)
history_found (first ∷ rest) (suc number) log few is = history_found rest number log (omega (arith, few)) is

-- past the last log there is no history
pub history_past : {K : Type 0} (logs : List (StreamLog K)) (number : ℕ) → length logs ≤ number → ◌≡◌ {A = List (Entry K)} [] (history_at logs number)
history_past [] number past = refl
history_past (first ∷ rest) zero past = absurd (omega (arith, past))
history_past (first ∷ rest) (suc number) past = history_past rest number (omega (arith, past))
