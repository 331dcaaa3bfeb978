-- The lane of a rank: its place, and a change of it.
use Rattle.std.proofs.Common.{◌≡◌, ℕ, ◌+◌, ◌<◌, ◌≤◌, ◌==◌, ◌&&◌, nat_le, nat_lt, not, true, false, cond, List, [], ◌∷◌, ◌++◌, length, get_or, set, take, filter, insert, ap, refl, sym, suc, zero, arith, append_assoc, length-append, ◌⊎◌, inl, inr, ◌∙◌, subst}
use Rattle.std.specs.Prelude.{if◌then◌else◌}
use Rattle.std.specs.List.{list_all}
use Rattle.std.specs.List.Sorted.{IsPartitionedBy}
use Rattle.std.specs.Cmp.Derive.{both_true}
use Rattle.std.proofs.lemmas.Bool.{ltb-true, ltb-false, lt-ltb, eqb-true, eq-eqb, and_parts}
use Rattle.std.proofs.lemmas.Bool.Decides.{nat_tests}
use Rattle.std.proofs.lemmas.List.{nil_from_length}
use Rattle.std.proofs.lemmas.List.Elements.{filter-append}
use Rattle.strm_msg.specs.Message.{Msg, rank_of}
use Rattle.strm_queue.specs.Queue.{front_len, is_flushed, flush_of, put_in, put_back_in}
use Rattle.strm_queue.specs.Lanes.{Ranked, is_of_rank, is_laned, messages_of, lane_of, spare_of, place_of, IsPlace}
use Rattle.strm_queue.proofs.ListLemmas.{all_so, all_both, all_get, filter_so, none_flushed, and-true}
use Rattle.strm_queue.proofs.StandLemmas.{all_reach, all_below, filter_other}
use Rattle.strm_queue.proofs.LanesLemmas.{its_own, lanes_fall, lanes_after, is_absent, absent_below, lane_of-absent, lanes_filter, lanes_below}

-- ---- the lane at a place

-- what stands at a place is the lane of its rank
pub lane_of-place : (lanes : List Ranked) (at : ℕ) (d : Ranked) → is_laned lanes ≡ true → at < length lanes → lane_of (get_or lanes at d).rank lanes ≡ get_or lanes at d
lane_of-place [] at d h less = absurd (omega arith)
lane_of-place (lane ∷ lanes) zero d h less = let same : (lane.rank == lane.rank) ≡ true = eq-eqb lane.rank lane.rank refl in rw same refl
lane_of-place (lane ∷ lanes) (suc i) d h less =
    let under = ltb-true (get_or lanes i d).rank lane.rank (all_get (λ (other : Ranked). nat_lt other.rank lane.rank) lanes i d (lanes_fall lane lanes h) (omega arith)) in
    let other : (lane.rank == (get_or lanes i d).rank) ≡ false = grind (arith, nat_tests) in
    rw other (lane_of-place lanes i d (lanes_after lane lanes h) (omega arith))

-- the same, of a lane that was read there
pub lane_at : (rank : ℕ) (lanes : List Ranked) (at : ℕ) (lane : Ranked) → is_laned lanes ≡ true → IsPlace rank at lanes → lane ≡ get_or lanes at lane → lane_of rank lanes ≡ lane
lane_at rank lanes at lane h place is = rw (← place.1 lane) (lane_of-place lanes at lane h place.0 ∙ sym is)

-- the messages at a place stand there
pub stands-place : (lanes : List Ranked) (at : ℕ) (d : Ranked) → is_laned lanes ≡ true → at < length lanes → list_all (is_of_rank (get_or lanes at d).rank) (get_or lanes at d).messages ≡ true
stands-place [] at d h less = absurd (omega arith)
stands-place (lane ∷ lanes) zero d h less = its_own lane lanes h
stands-place (lane ∷ lanes) (suc i) d h less = stands-place lanes i d (lanes_after lane lanes h) (omega arith)

-- at the place of a rank stands its lane, or there is none
pub place_or_absent : (rank : ℕ) (lanes : List Ranked) → is_laned lanes ≡ true → IsPlace rank (place_of rank lanes) lanes ⊎ (is_absent rank lanes ≡ true)
place_or_absent rank [] h = inr refl
place_or_absent rank (lane ∷ lanes) h =
    elim (nat_lt rank lane.rank) as (λ b. nat_lt rank lane.rank ≡ b → IsPlace rank (cond b (1 + place_of rank lanes) 0) (lane ∷ lanes) ⊎ (is_absent rank (lane ∷ lanes) ≡ true)) [
      | true ↦ λ e.
          let above = ltb-true rank lane.rank e in
          let next : 1 + place_of rank lanes ≡ suc (place_of rank lanes) = omega arith in
          let other : not (lane.rank == rank) ≡ true = grind (arith, nat_tests) in
          elim (place_or_absent rank lanes (lanes_after lane lanes h)) [
            | inl found ↦ rw next (inl (omega (arith, found.0), λ d. found.1 d))
            | inr absent ↦ inr (both_true other absent)
          ]
      | false ↦ λ e.
          let at_most = ltb-false rank lane.rank e in
          elim (lane.rank == rank) as (λ b. (lane.rank == rank) ≡ b → IsPlace rank 0 (lane ∷ lanes) ⊎ (is_absent rank (lane ∷ lanes) ≡ true)) [
            | true ↦ λ same. inl (omega arith, λ d. eqb-true lane.rank rank same)
            | false ↦ λ differs.
                let other : not (lane.rank == rank) ≡ true = rw differs refl in
                inr (both_true other (absent_below rank lane.rank lanes at_most (lanes_fall lane lanes h)))
          ] refl
    ] refl

-- the lanes above a rank stand before the others
pub ranks_part : (rank : ℕ) (lanes : List Ranked) → is_laned lanes ≡ true → IsPartitionedBy (λ (lane : Ranked). nat_lt rank lane.rank) lanes
ranks_part rank [] h i j d le less above = absurd (omega arith)
ranks_part rank (lane ∷ lanes) h zero zero d le less above = above
ranks_part rank (lane ∷ lanes) h zero (suc j) d le less above =
    let under = ltb-true (get_or lanes j d).rank lane.rank (all_get (λ (other : Ranked). nat_lt other.rank lane.rank) lanes j d (lanes_fall lane lanes h) (omega arith)) in
    let over = ltb-true rank (get_or lanes j d).rank above in
    lt-ltb rank lane.rank (omega (arith, under, over))
ranks_part rank (lane ∷ lanes) h (suc i) zero d le less above = absurd (omega arith)
ranks_part rank (lane ∷ lanes) h (suc i) (suc j) d le less above = ranks_part rank lanes (lanes_after lane lanes h) i j d (omega arith) (omega arith) above

-- ---- a lane that is changed at its place

-- a lane changed at its place, of the same rank
module _ (new d : Ranked) where
  falls-set : (most : ℕ) (lanes : List Ranked) (at : ℕ) → at < length lanes → new.rank ≡ (get_or lanes at d).rank → list_all (λ lane. nat_lt lane.rank most) lanes ≡ true → list_all (λ lane. nat_lt lane.rank most) (set lanes at new) ≡ true
  falls-set most [] at less same h = absurd (omega arith)
  falls-set most (lane ∷ lanes) zero less same h =
      let test = λ (other : Ranked). nat_lt other.rank most in
      let here : test new ≡ true = rw same ((and_parts (test lane) (list_all test lanes) h).0) in
      both_true here ((and_parts (test lane) (list_all test lanes) h).1)
  falls-set most (lane ∷ lanes) (suc i) less same h =
      let test = λ (other : Ranked). nat_lt other.rank most in
      both_true ((and_parts (test lane) (list_all test lanes) h).0) (falls-set most lanes i (omega arith) same ((and_parts (test lane) (list_all test lanes) h).1))

  -- the lanes stay in order
  pub is_laned-set : (lanes : List Ranked) (at : ℕ) → is_laned lanes ≡ true → at < length lanes → new.rank ≡ (get_or lanes at d).rank → list_all (is_of_rank new.rank) new.messages ≡ true → is_laned (set lanes at new) ≡ true
  is_laned-set [] at h less same stands = absurd (omega arith)
  is_laned-set (lane ∷ lanes) zero h less same stands =
      let falls : list_all (λ (other : Ranked). nat_lt other.rank new.rank) lanes ≡ true = rw same (lanes_fall lane lanes h) in
      both_true stands (both_true falls (lanes_after lane lanes h))
  is_laned-set (lane ∷ lanes) (suc i) h less same stands =
      both_true (its_own lane lanes h) (both_true (falls-set lane.rank lanes i (omega arith) same (lanes_fall lane lanes h)) (is_laned-set lanes i (lanes_after lane lanes h) (omega arith) same stands))

  -- the room of each rank falls by no more than that of the lane
  pub spare-set : (lost other : ℕ) (lanes : List Ranked) (at : ℕ) → at < length lanes → new.rank ≡ (get_or lanes at d).rank → (get_or lanes at d).spare ≤ new.spare + lost → spare_of other lanes ≤ spare_of other (set lanes at new) + lost
  spare-set lost other [] at less same spare = absurd (omega arith)
  spare-set lost other (lane ∷ lanes) zero less same spare =
      elim (lane.rank == other) as (λ b. (new.rank == other) ≡ b → (if b then lane else lane_of other lanes).spare ≤ (if new.rank == other then new else lane_of other lanes).spare + lost) [
        | true ↦ λ e. rw e spare
        | false ↦ λ e. rw e (omega arith)
      ] (ap (λ rank. rank == other) same)
  spare-set lost other (lane ∷ lanes) (suc i) less same spare =
      let rest = spare-set lost other lanes i (omega arith) same spare in
      elim (lane.rank == other) as (λ b. (if b then lane else lane_of other lanes).spare ≤ (if b then lane else lane_of other (set lanes i new)).spare + lost) [
        | true ↦ omega arith
        | false ↦ rest
      ]

  -- the count of the messages changes as that of the lane
  pub length-set_lane : (lanes : List Ranked) (at : ℕ) → at < length lanes → length (messages_of (set lanes at new)) + length (get_or lanes at d).messages ≡ length (messages_of lanes) + length new.messages
  length-set_lane [] at less = absurd (omega arith)
  length-set_lane (lane ∷ lanes) zero less =
      let old = length-append lane.messages (messages_of lanes) in
      let after = length-append new.messages (messages_of lanes) in
      rw (old, after) (omega arith)
  length-set_lane (lane ∷ lanes) (suc i) less =
      let old = length-append lane.messages (messages_of lanes) in
      let after = length-append lane.messages (messages_of (set lanes i new)) in
      rw (old, after) (omega (arith, length-set_lane lanes i (omega arith)))

-- ---- a message that is put in, or taken, or flushed

-- messages of at least a rank before what a message is put into
front_step : (least : ℕ) (q rest : List Msg) (m : Msg) → list_all (λ y. nat_le least (rank_of y)) q ≡ true → insert (q ++ rest) (front_len least (q ++ rest)) m ≡ q ++ insert rest (front_len least rest) m
front_step least [] rest m h = refl
front_step least (x ∷ q) rest m h =
    let test = λ (y : Msg). nat_le least (rank_of y) in
    let next : 1 + front_len least (q ++ rest) ≡ suc (front_len least (q ++ rest)) = omega arith in
    rw ((and_parts (test x) (list_all test q) h).0, next) (ap (λ ys. x ∷ ys) (front_step least q rest m ((and_parts (test x) (list_all test q) h).1)))

-- nothing stands before messages of lesser ranks
front_none : (least : ℕ) (q : List Msg) → list_all (λ y. nat_lt (rank_of y) least) q ≡ true → front_len least q ≡ 0
front_none least [] h = refl
front_none least (x ∷ q) h =
    let test = λ (y : Msg). nat_lt (rank_of y) least in
    let less = ltb-true (rank_of x) least ((and_parts (test x) (list_all test q) h).0) in
    let stop : nat_le least (rank_of x) ≡ false = grind (arith, nat_tests) in
    rw stop refl

-- a message put behind those of its lane is put behind those of its rank
pub put_in-set : (new d : Ranked) (m : Msg) (lanes : List Ranked) (at : ℕ) → is_laned lanes ≡ true → at < length lanes → (get_or lanes at d).rank ≡ rank_of m → new.messages ≡ (get_or lanes at d).messages ++ m ∷ [] → messages_of (set lanes at new) ≡ put_in (messages_of lanes) m
put_in-set new d m [] at h less rank is = absurd (omega arith)
put_in-set new d m (lane ∷ lanes) zero h less rank is =
    let reach = all_reach (rank_of m) lane.rank lane.messages (omega (arith, rank)) (its_own lane lanes h) in
    let below : list_all (λ (y : Msg). nat_lt (rank_of y) (rank_of m)) (messages_of lanes) ≡ true = rw (← rank) (lanes_below lane.rank lanes (lanes_after lane lanes h) (lanes_fall lane lanes h)) in
    rw (front_step (rank_of m) lane.messages (messages_of lanes) m reach, front_none (rank_of m) (messages_of lanes) below, is) (append_assoc lane.messages (m ∷ []) (messages_of lanes))
put_in-set new d m (lane ∷ lanes) (suc i) h less rank is =
    let under = ltb-true (get_or lanes i d).rank lane.rank (all_get (λ (other : Ranked). nat_lt other.rank lane.rank) lanes i d (lanes_fall lane lanes h) (omega arith)) in
    let reach = all_reach (rank_of m) lane.rank lane.messages (omega (arith, rank, under)) (its_own lane lanes h) in
    rw (front_step (rank_of m) lane.messages (messages_of lanes) m reach) (ap (λ ys. lane.messages ++ ys) (put_in-set new d m lanes i (lanes_after lane lanes h) (omega arith) rank is))

-- a message put before those of its lane is put before those of its rank
pub put_back_in-set : (new d : Ranked) (m : Msg) (lanes : List Ranked) (at : ℕ) → is_laned lanes ≡ true → at < length lanes → (get_or lanes at d).rank ≡ rank_of m → new.messages ≡ m ∷ (get_or lanes at d).messages → messages_of (set lanes at new) ≡ put_back_in (messages_of lanes) m
put_back_in-set new d m [] at h less rank is = absurd (omega arith)
put_back_in-set new d m (lane ∷ lanes) zero h less rank is =
    let own = all_below (rank_of m + 1) lane.rank lane.messages (omega (arith, rank)) (its_own lane lanes h) in
    let falls = all_so (λ (other : Ranked). nat_lt other.rank lane.rank) (λ (other : Ranked). nat_lt other.rank (rank_of m + 1)) lanes (λ other under. lt-ltb other.rank (rank_of m + 1) (let less = ltb-true other.rank lane.rank under in omega (arith, less, rank))) (lanes_fall lane lanes h) in
    let rest = lanes_below (rank_of m + 1) lanes (lanes_after lane lanes h) falls in
    let below = all_both (λ (y : Msg). nat_lt (rank_of y) (rank_of m + 1)) lane.messages (messages_of lanes) own rest in
    rw (front_none (rank_of m + 1) (lane.messages ++ messages_of lanes) below, is) refl
put_back_in-set new d m (lane ∷ lanes) (suc i) h less rank is =
    let under = ltb-true (get_or lanes i d).rank lane.rank (all_get (λ (other : Ranked). nat_lt other.rank lane.rank) lanes i d (lanes_fall lane lanes h) (omega arith)) in
    let reach = all_reach (rank_of m + 1) lane.rank lane.messages (omega (arith, rank, under)) (its_own lane lanes h) in
    rw (front_step (rank_of m + 1) lane.messages (messages_of lanes) m reach) (ap (λ ys. lane.messages ++ ys) (put_back_in-set new d m lanes i (lanes_after lane lanes h) (omega arith) rank is))

-- the first message leaves where the lanes before are empty
pub first-set : (new d : Ranked) (m : Msg) (lanes : List Ranked) (at : ℕ) → at < length lanes → messages_of (take at lanes) ≡ [] → (get_or lanes at d).messages ≡ m ∷ new.messages → messages_of lanes ≡ m ∷ messages_of (set lanes at new)
first-set new d m [] at less empty is = absurd (omega arith)
first-set new d m (lane ∷ lanes) zero less empty is = rw is refl
first-set new d m (lane ∷ lanes) (suc i) less empty is =
    let sum : length lane.messages + length (messages_of (take i lanes)) ≡ 0 = rw (← length-append lane.messages (messages_of (take i lanes)), empty) refl in
    let none : lane.messages ≡ [] = nil_from_length lane.messages (omega (arith, sum)) in
    let rest : messages_of (take i lanes) ≡ [] = nil_from_length (messages_of (take i lanes)) (omega (arith, sum)) in
    rw none (first-set new d m lanes i (omega arith) rest is)

-- a flush of the lane of a rank removes what stands there and is flushed
pub flush-set : (new d : Ranked) (lanes : List Ranked) (at : ℕ) → is_laned lanes ≡ true → at < length lanes → new.messages ≡ flush_of (get_or lanes at d).messages → messages_of (set lanes at new) ≡ filter (λ m. not (is_flushed m.kind && is_of_rank (get_or lanes at d).rank m)) (messages_of lanes)
flush-set new d [] at h less is = absurd (omega arith)
flush-set new d (lane ∷ lanes) zero h less is =
    let stays = λ (m : Msg). not (is_flushed m.kind && is_of_rank lane.rank m) in
    let split = filter-append stays lane.messages (messages_of lanes) in
    let here : filter stays lane.messages ≡ flush_of lane.messages = filter_so (is_of_rank lane.rank) stays (λ (m : Msg). not (is_flushed m.kind)) lane.messages (λ m stands. rw (stands, and-true (is_flushed m.kind)) refl) (its_own lane lanes h) in
    let absent = absent_below lane.rank lane.rank lanes (omega arith) (lanes_fall lane lanes h) in
    let none : filter (is_of_rank lane.rank) (messages_of lanes) ≡ [] = lanes_filter lane.rank lanes (lanes_after lane lanes h) ∙ ap (λ (x : Ranked). x.messages) (lane_of-absent lane.rank lanes absent) in
    rw (split, here, none_flushed (is_of_rank lane.rank) (messages_of lanes) none, is) refl
flush-set new d (lane ∷ lanes) (suc i) h less is =
    let rank = (get_or lanes i d).rank in
    let stays = λ (m : Msg). not (is_flushed m.kind && is_of_rank rank m) in
    let split = filter-append stays lane.messages (messages_of lanes) in
    let under = ltb-true rank lane.rank (all_get (λ (other : Ranked). nat_lt other.rank lane.rank) lanes i d (lanes_fall lane lanes h) (omega arith)) in
    let differs : (lane.rank == rank) ≡ false = grind (arith, nat_tests) in
    let here : filter stays lane.messages ≡ lane.messages = none_flushed (is_of_rank rank) lane.messages (filter_other lane.rank rank lane.messages differs (its_own lane lanes h)) in
    rw (split, here) (ap (λ ys. lane.messages ++ ys) (flush-set new d lanes i (lanes_after lane lanes h) (omega arith) is))

-- ---- a new lane

-- a new lane without messages, put at the place of a rank that no lane has
module _ (new : Ranked) (empty : new.messages ≡ []) where
  pub messages-insert : (lanes : List Ranked) (at : ℕ) → messages_of (insert lanes at new) ≡ messages_of lanes
  messages-insert [] zero = rw empty refl
  messages-insert [] (suc i) = rw empty refl
  messages-insert (lane ∷ lanes) zero = rw empty refl
  messages-insert (lane ∷ lanes) (suc i) = ap (λ ys. lane.messages ++ ys) (messages-insert lanes i)

  falls-insert : (most : ℕ) (lanes : List Ranked) (at : ℕ) → new.rank < most → list_all (λ lane. nat_lt lane.rank most) lanes ≡ true → list_all (λ lane. nat_lt lane.rank most) (insert lanes at new) ≡ true
  falls-insert most [] zero less h = both_true (lt-ltb new.rank most less) refl
  falls-insert most [] (suc i) less h = both_true (lt-ltb new.rank most less) refl
  falls-insert most (lane ∷ lanes) zero less h = both_true (lt-ltb new.rank most less) h
  falls-insert most (lane ∷ lanes) (suc i) less h =
      let test = λ (other : Ranked). nat_lt other.rank most in
      both_true ((and_parts (test lane) (list_all test lanes) h).0) (falls-insert most lanes i less ((and_parts (test lane) (list_all test lanes) h).1))

  pub is_laned-insert : (lanes : List Ranked) → is_laned lanes ≡ true → is_absent new.rank lanes ≡ true → is_laned (insert lanes (place_of new.rank lanes) new) ≡ true
  is_laned-insert [] h absent = rw empty refl
  is_laned-insert (lane ∷ lanes) h absent =
      let here = (and_parts (not (lane.rank == new.rank)) (is_absent new.rank lanes) absent).0 in
      let others = (and_parts (not (lane.rank == new.rank)) (is_absent new.rank lanes) absent).1 in
      elim (nat_lt new.rank lane.rank) as (λ b. nat_lt new.rank lane.rank ≡ b → is_laned (insert (lane ∷ lanes) (cond b (1 + place_of new.rank lanes) 0) new) ≡ true) [
        | true ↦ λ e.
            let above = ltb-true new.rank lane.rank e in
            let next : 1 + place_of new.rank lanes ≡ suc (place_of new.rank lanes) = omega arith in
            rw next (both_true (its_own lane lanes h) (both_true (falls-insert lane.rank lanes (place_of new.rank lanes) above (lanes_fall lane lanes h)) (is_laned-insert lanes (lanes_after lane lanes h) others)))
        | false ↦ λ e.
            let at_most = ltb-false new.rank lane.rank e in
            let under : lane.rank < new.rank = grind (arith, nat_tests) in
            let falls = all_so (λ (other : Ranked). nat_lt other.rank lane.rank) (λ (other : Ranked). nat_lt other.rank new.rank) lanes (λ other less. lt-ltb other.rank new.rank (let deeper = ltb-true other.rank lane.rank less in omega (arith, deeper, under))) (lanes_fall lane lanes h) in
            let stands : list_all (is_of_rank new.rank) new.messages ≡ true = rw empty refl in
            both_true stands (both_true (both_true (lt-ltb lane.rank new.rank under) falls) h)
      ] refl

  pub spare-insert : (other : ℕ) (lanes : List Ranked) (at : ℕ) → is_absent new.rank lanes ≡ true → spare_of other lanes ≤ spare_of other (insert lanes at new)
  spare-insert other [] zero absent = omega arith
  spare-insert other [] (suc i) absent = omega arith
  spare-insert other (lane ∷ lanes) zero absent =
      elim (new.rank == other) as (λ b. (new.rank == other) ≡ b → spare_of other (lane ∷ lanes) ≤ (if b then new else lane_of other (lane ∷ lanes)).spare) [
        | true ↦ λ e.
            let none : lane_of other (lane ∷ lanes) ≡ record { rank = other; messages = []; spare = 0 } = lane_of-absent other (lane ∷ lanes) (subst (λ rank. is_absent rank (lane ∷ lanes) ≡ true) (eqb-true new.rank other e) absent) in
            let zero_spare : spare_of other (lane ∷ lanes) ≡ 0 = ap (λ (x : Ranked). x.spare) none in
            omega (arith, zero_spare)
        | false ↦ λ e. omega arith
      ] refl
  spare-insert other (lane ∷ lanes) (suc i) absent =
      let rest = spare-insert other lanes i ((and_parts (not (lane.rank == new.rank)) (is_absent new.rank lanes) absent).1) in
      elim (lane.rank == other) as (λ b. (if b then lane else lane_of other lanes).spare ≤ (if b then lane else lane_of other (insert lanes i new)).spare) [
        | true ↦ omega arith
        | false ↦ rest
      ]

  -- the new lane stands at its place
  pub IsPlace-insert : (rank : ℕ) (lanes : List Ranked) (at : ℕ) → at ≤ length lanes → new.rank ≡ rank → IsPlace rank at (insert lanes at new)
  IsPlace-insert rank [] zero le same = (omega arith, λ d. same)
  IsPlace-insert rank [] (suc i) le same = absurd (omega arith)
  IsPlace-insert rank (lane ∷ lanes) zero le same = (omega arith, λ d. same)
  IsPlace-insert rank (lane ∷ lanes) (suc i) le same = let rest = IsPlace-insert rank lanes i (omega arith) same in (omega (arith, rest.0), λ d. rest.1 d)
