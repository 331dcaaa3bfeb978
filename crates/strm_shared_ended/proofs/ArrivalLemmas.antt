-- How many messages came in.
use Rattle.std.proofs.Common.{◌≡◌, ℕ, ◌+◌, ◌<◌, ◌≤◌, Bool, true, false, cond, List, ◌++◌, get_or, length, take, refl, sym, ap, subst, ◌∙◌, arith}
use Rattle.std.specs.Prelude.{count_by}
use Rattle.std.specs.Int.{from_bool}
use Rattle.std.proofs.lemmas.List.Recursion.{is_count_by}
use Rattle.std.proofs.lemmas.List.{take_all}
use Rattle.std.proofs.lemmas.List.Sums.{count_by-le-length, sum_by_more}
use Rattle.strm_msg.specs.Message.{Msg}
use Rattle.strm_head_calls.specs.declared.event.Event.{Event}
use Rattle.strm_head_calls.specs.declared.event.Event.TheVariants.{Asked, Arrived}
use Rattle.strm_shared_entry.specs.Entry.{Entry}
use Rattle.strm_shared_entry.specs.Entry.{came_in, has_come_in}
use Rattle.strm_shared_entry.specs.Own.{arrivals}

one_more : {P : Type 0} (event : Event P) (others : List Msg) → length (came_in event ++ others) ≡ cond (has_come_in event) (1 + length others) (length others)
one_more (Asked request) others = refl
one_more (Arrived m) others = omega arith

pub arrivals_count : {K : Type 0} (history : List (Entry K)) → length (arrivals history) ≡ count_by (λ entry. has_come_in entry.event) history
arrivals_count history =
    is_count_by (λ (h : List (Entry _)). length (arrivals h)) (λ (entry : Entry _). has_come_in entry.event) refl (λ entry rest. one_more entry.event (arrivals rest)) history

as_number : (b : Bool) → from_bool b ≡ cond b 1 0
as_number true = refl
as_number false = refl

-- one step more, and whether a message came in with it
pub landed_more : {K : Type 0} (history : List (Entry K)) (at : ℕ) (entry : Entry K) (arrival_count one : ℕ) → at < length history → get_or history at entry ≡ entry → arrival_count ≡ count_by (λ entry. has_come_in entry.event) (take at history) → one ≡ from_bool (has_come_in entry.event) → arrival_count + one ≡ count_by (λ entry. has_come_in entry.event) (take (at + 1) history)
landed_more history at entry arrival_count one below is so_far came =
    let before = count_by (λ (entry : Entry _). has_come_in entry.event) (take at history) in
    ap (λ n. n + one) so_far
    ∙ ap (λ n. before + n) (came ∙ as_number (has_come_in entry.event) ∙ ap (λ (e : Entry _). cond (has_come_in e.event) 1 0) (sym is))
    ∙ sym (sum_by_more (λ (e : Entry _). cond (has_come_in e.event) 1 0) history at entry below)

pub at_most_one : (b : Bool) (n : ℕ) → n ≡ from_bool b → n ≤ 1
at_most_one true n is = let one : n ≡ 1 = is in omega (arith, one)
at_most_one false n is = let none : n ≡ 0 = is in omega (arith, none)

-- all steps, of which each message came in
pub all_landed : {K : Type 0} (history : List (Entry K)) (at arrival_count : ℕ) → length history ≤ at → arrival_count ≡ count_by (λ entry. has_come_in entry.event) (take at history) → arrival_count ≡ length (arrivals history)
all_landed history at arrival_count past so_far =
    so_far ∙ ap (λ (h : List (Entry _)). count_by (λ entry. has_come_in entry.event) h) (take_all at history past) ∙ sym (arrivals_count history)

pub arrivals_few : {K : Type 0} (history : List (Entry K)) → length (arrivals history) ≤ length history
arrivals_few history =
    subst (λ (n : ℕ). n ≤ length history) (sym (arrivals_count history)) (count_by-le-length (λ (entry : Entry _). has_come_in entry.event) history)
