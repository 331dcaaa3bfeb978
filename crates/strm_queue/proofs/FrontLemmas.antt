-- Lanes without messages at the front.
use Rattle.std.proofs.Common.{◌≡◌, ℕ, ◌≤◌, min, List, [], ◌∷◌, ◌++◌, get_or, set, take, insert, ap, refl, ◌∙◌, suc, zero, arith}
use Rattle.strm_msg.specs.Message.{Msg}
use Rattle.strm_queue.specs.Lanes.{Ranked, messages_of, IsEmptyBefore, StaysEmpty}

-- the parts of what is empty
left_none : (q r : List Msg) → q ++ r ≡ [] → q ≡ []
left_none [] r e = refl
left_none (m ∷ q) r e = cc

right_none : (q r : List Msg) → q ++ r ≡ [] → r ≡ []
right_none [] r e = e
right_none (m ∷ q) r e = cc

both_none : (q r : List Msg) → q ≡ [] → r ≡ [] → q ++ r ≡ []
both_none q r e f = rw e f

-- fewer lanes are empty too
pub fewer_empty : (n most : ℕ) (lanes : List Ranked) → n ≤ most → IsEmptyBefore most lanes → IsEmptyBefore n lanes
fewer_empty zero most lanes le empty = refl
fewer_empty (suc n) most [] le empty = refl
fewer_empty (suc n) zero (lane ∷ lanes) le empty = absurd (omega arith)
fewer_empty (suc n) (suc most) (lane ∷ lanes) le empty =
    both_none lane.messages _ (left_none lane.messages _ empty) (fewer_empty n most lanes (omega arith) (right_none lane.messages _ empty))

no_lanes : (n : ℕ) → IsEmptyBefore n []
no_lanes zero = refl
no_lanes (suc n) = refl

-- what is the same before a place is the same before lesser ones
same_before : (n at : ℕ) (old new : List Ranked) → n ≤ at → take at new ≡ take at old → take n new ≡ take n old
same_before zero at old new le same = refl
same_before (suc n) zero old new le same = absurd (omega arith)
same_before (suc n) (suc at) [] [] le same = refl
same_before (suc n) (suc at) [] (y ∷ ys) le same = cc
same_before (suc n) (suc at) (x ∷ xs) [] le same = cc
same_before (suc n) (suc at) (x ∷ xs) (y ∷ ys) le same =
    let rest : take at ys ≡ take at xs = cc in
    let more = same_before n at xs ys (omega arith) rest in
    cc

-- of the lanes that were empty, those before the place of a change are
pub lowered_empty : (front at : ℕ) (old new : List Ranked) → take at new ≡ take at old → IsEmptyBefore front old → IsEmptyBefore (min front at) new
lowered_empty front at old new same empty =
    ap (λ (lanes : List Ranked). messages_of lanes) (same_before (min front at) at old new (omega arith) same) ∙ fewer_empty (min front at) front old (omega arith) empty

-- a lane changed at its place, which has no message if it had none
pub set-empty : (new d : Ranked) (lanes : List Ranked) (at : ℕ) → ((get_or lanes at d).messages ≡ [] → new.messages ≡ []) → StaysEmpty lanes (set lanes at new)
set-empty new d lanes at none zero empty = refl
set-empty new d [] at none (suc n) empty = refl
set-empty new d (lane ∷ lanes) zero none (suc n) empty = both_none new.messages _ (none (left_none lane.messages _ empty)) (right_none lane.messages _ empty)
set-empty new d (lane ∷ lanes) (suc i) none (suc n) empty =
    both_none lane.messages _ (left_none lane.messages _ empty) (set-empty new d lanes i none n (right_none lane.messages _ empty))

-- a new lane without messages
pub insert-empty : (new : Ranked) → new.messages ≡ [] → (lanes : List Ranked) (at : ℕ) → StaysEmpty lanes (insert lanes at new)
insert-empty new none lanes at zero empty = refl
insert-empty new none lanes zero (suc n) empty = both_none new.messages _ none (fewer_empty n (suc n) lanes (omega arith) empty)
insert-empty new none [] (suc i) (suc n) empty = both_none new.messages _ none (no_lanes n)
insert-empty new none (lane ∷ lanes) (suc i) (suc n) empty =
    both_none lane.messages _ (left_none lane.messages _ empty) (insert-empty new none lanes i n (right_none lane.messages _ empty))
