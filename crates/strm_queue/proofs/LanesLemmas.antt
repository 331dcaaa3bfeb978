-- The lanes of a queue, one after another.
use Rattle.std.proofs.Common.{◌≡◌, ℕ, ◌+◌, ◌≤◌, ◌==◌, ◌&&◌, nat_le, nat_lt, not, Bool, true, false, cond, List, [], ◌∷◌, ◌++◌, length, filter, ap, refl, arith}
use Rattle.std.specs.Prelude.{if◌then◌else◌}
use Rattle.std.specs.List.{list_all}
use Rattle.std.specs.Cmp.Derive.{both_true}
use Rattle.std.proofs.lemmas.Bool.{ltb-true, le-leb, eqb-true, and_parts}
use Rattle.std.proofs.lemmas.Bool.Decides.{nat_tests}
use Rattle.std.proofs.lemmas.List.{append-nil}
use Rattle.std.proofs.lemmas.List.Elements.{filter-append}
use Rattle.strm_msg.specs.Message.{Msg, rank_of}
use Rattle.strm_queue.specs.Queue.{is_ordered}
use Rattle.strm_queue.specs.Lanes.{Ranked, is_of_rank, is_laned, messages_of, lane_of, messages_of_rank}
use Rattle.strm_queue.proofs.ListLemmas.{all_so, all_both}
use Rattle.strm_queue.proofs.StandLemmas.{stands_elsewhere, rank_of-stands, all_below, filter_own, filter_other}

-- the parts of what is kept of lanes
module _ (lane : Ranked) (lanes : List Ranked) (h : is_laned (lane ∷ lanes) ≡ true) where
  pub its_own : list_all (is_of_rank lane.rank) lane.messages ≡ true
  its_own = (and_parts (list_all (is_of_rank lane.rank) lane.messages) (list_all (λ other. nat_lt other.rank lane.rank) lanes && is_laned lanes) h).0

  pub lanes_fall : list_all (λ (other : Ranked). nat_lt other.rank lane.rank) lanes ≡ true
  lanes_fall = (and_parts (list_all (λ (other : Ranked). nat_lt other.rank lane.rank) lanes) (is_laned lanes) ((and_parts (list_all (is_of_rank lane.rank) lane.messages) (list_all (λ (other : Ranked). nat_lt other.rank lane.rank) lanes && is_laned lanes) h).1)).0

  pub lanes_after : is_laned lanes ≡ true
  lanes_after = (and_parts (list_all (λ (other : Ranked). nat_lt other.rank lane.rank) lanes) (is_laned lanes) ((and_parts (list_all (is_of_rank lane.rank) lane.messages) (list_all (λ (other : Ranked). nat_lt other.rank lane.rank) lanes && is_laned lanes) h).1)).1

-- no lane has the rank
abbrev pub is_absent : ℕ → List Ranked → Bool
is_absent rank lanes = list_all (λ lane. not (lane.rank == rank)) lanes

pub absent_below : (rank most : ℕ) (lanes : List Ranked) → most ≤ rank → list_all (λ lane. nat_lt lane.rank most) lanes ≡ true → is_absent rank lanes ≡ true
absent_below rank most lanes le h =
    all_so (λ (lane : Ranked). nat_lt lane.rank most) (λ (lane : Ranked). not (lane.rank == rank)) lanes (λ lane less. let under = ltb-true lane.rank most less in grind (arith, nat_tests)) h

pub lane_of-absent : (rank : ℕ) (lanes : List Ranked) → is_absent rank lanes ≡ true → lane_of rank lanes ≡ record { rank = rank; messages = []; spare = 0 }
lane_of-absent rank [] h = refl
lane_of-absent rank (lane ∷ lanes) h =
    let here : (lane.rank == rank) ≡ false = grind (arith, nat_tests, (and_parts (not (lane.rank == rank)) (is_absent rank lanes) h).0) in
    rw here (lane_of-absent rank lanes ((and_parts (not (lane.rank == rank)) (is_absent rank lanes) h).1))

-- the messages of a rank are those that stand in its lane
pub lanes_filter : (rank : ℕ) (lanes : List Ranked) → is_laned lanes ≡ true → filter (is_of_rank rank) (messages_of lanes) ≡ messages_of_rank rank lanes
lanes_filter rank [] h = refl
lanes_filter rank (lane ∷ lanes) h =
    let rest = lanes_filter rank lanes (lanes_after lane lanes h) in
    let split = filter-append (is_of_rank rank) lane.messages (messages_of lanes) in
    elim (lane.rank == rank) as (λ b. (lane.rank == rank) ≡ b → filter (is_of_rank rank) (lane.messages ++ messages_of lanes) ≡ (if b then lane else lane_of rank lanes).messages) [
      | true ↦ λ e.
          let same = eqb-true lane.rank rank e in
          let none = ap (λ (x : Ranked). x.messages) (lane_of-absent rank lanes (absent_below rank lane.rank lanes (omega (arith, same)) (lanes_fall lane lanes h))) in
          rw (split, filter_own lane.rank rank lane.messages e (its_own lane lanes h), rest, none) (append-nil lane.messages)
      | false ↦ λ e. rw (split, filter_other lane.rank rank lane.messages e (its_own lane lanes h), rest) refl
    ] refl

-- lanes of lesser ranks have messages of lesser ranks
pub lanes_below : (most : ℕ) (lanes : List Ranked) → is_laned lanes ≡ true → list_all (λ lane. nat_lt lane.rank most) lanes ≡ true → list_all (λ m. nat_lt (rank_of m) most) (messages_of lanes) ≡ true
lanes_below most [] laned h = refl
lanes_below most (lane ∷ lanes) laned h =
    let test = λ (other : Ranked). nat_lt other.rank most in
    let here = all_below most lane.rank lane.messages (ltb-true lane.rank most ((and_parts (test lane) (list_all test lanes) h).0)) (its_own lane lanes laned) in
    all_both (λ (m : Msg). nat_lt (rank_of m) most) lane.messages (messages_of lanes) here (lanes_below most lanes (lanes_after lane lanes laned) ((and_parts (test lane) (list_all test lanes) h).1))

-- messages of one rank before lesser ones are in order
ordered_front : (rank : ℕ) (q rest : List Msg) → list_all (is_of_rank rank) q ≡ true → list_all (λ m. nat_lt (rank_of m) rank) rest ≡ true → is_ordered rest ≡ true → is_ordered (q ++ rest) ≡ true
ordered_front rank [] rest own below ordered = ordered
ordered_front rank (x ∷ q) rest own below ordered =
    let its = rank_of-stands rank x ((and_parts (is_of_rank rank x) (list_all (is_of_rank rank) q) own).0) in
    let others = (and_parts (is_of_rank rank x) (list_all (is_of_rank rank) q) own).1 in
    let test = λ (y : Msg). nat_le (rank_of y) (rank_of x) in
    let behind = all_so (is_of_rank rank) test q (λ y stands. le-leb (rank_of y) (rank_of x) (let same = rank_of-stands rank y stands in omega (arith, same, its))) others in
    let after = all_so (λ (y : Msg). nat_lt (rank_of y) rank) test rest (λ y less. le-leb (rank_of y) (rank_of x) (let under = ltb-true (rank_of y) rank less in omega (arith, under, its))) below in
    both_true (all_both test q rest behind after) (ordered_front rank q rest others below ordered)

-- lanes one after another are in order
pub laned_ordered : (lanes : List Ranked) → is_laned lanes ≡ true → is_ordered (messages_of lanes) ≡ true
laned_ordered [] h = refl
laned_ordered (lane ∷ lanes) h =
    ordered_front lane.rank lane.messages (messages_of lanes) (its_own lane lanes h) (lanes_below lane.rank lanes (lanes_after lane lanes h) (lanes_fall lane lanes h)) (laned_ordered lanes (lanes_after lane lanes h))

apart : (q : List Msg) → length (filter (is_of_rank 0) q) + length (filter (is_of_rank 256) q) ≤ length q
apart [] = omega arith
apart (x ∷ q) =
    let rest = apart q in
    elim (is_of_rank 0 x) as (λ a. is_of_rank 0 x ≡ a → length (cond a (x ∷ filter (is_of_rank 0) q) (filter (is_of_rank 0) q)) + length (filter (is_of_rank 256) (x ∷ q)) ≤ length (x ∷ q)) [
      | true ↦ λ d. let other : is_of_rank 256 x ≡ false = stands_elsewhere 0 256 x d in rw other (omega (arith, rest))
      | false ↦ λ d. elim (is_of_rank 256 x) as (λ b. length (filter (is_of_rank 0) q) + length (cond b (x ∷ filter (is_of_rank 256) q) (filter (is_of_rank 256) q)) ≤ length (x ∷ q)) [
        | true ↦ omega (arith, rest)
        | false ↦ omega (arith, rest)
      ]
    ] refl

-- the messages of two lanes are no more than all
pub length-two : (lanes : List Ranked) → is_laned lanes ≡ true → length (messages_of_rank 0 lanes) + length (messages_of_rank 256 lanes) ≤ length (messages_of lanes)
length-two lanes h =
    let low = ap (λ (q : List Msg). length q) (lanes_filter 0 lanes h) in
    let high = ap (λ (q : List Msg). length q) (lanes_filter 256 lanes h) in
    omega (arith, low, high, apart (messages_of lanes))
