-- A lane that was read at its place and written there again, of the same rank.
use Rattle.std.proofs.Common.{◌≡◌, ℕ, ◌+◌, ◌<◌, ◌≤◌, ◌&&◌, not, Bool, true, false, List, [], ◌∷◌, ◌++◌, length, get_or, set, take, drop, filter, ap, refl, sym, ◌∙◌, subst, suc, zero, arith, length-append, length-set, add-one, drop-cons, Ok, Err, OnOk, OnErr, slice_get}
use Rattle.std.specs.List.{list_all}
use Rattle.std.specs.Prelude.{Result}
use Rattle.std.proofs.Math.Seq.{take-suc-set}
use Rattle.std.proofs.lemmas.Grind.{flat_map-append}
use Rattle.std.proofs.lemmas.List.{nil_from_length, get_or-set_same, append-nil}
use Rattle.std.proofs.lemmas.List.Elements.{filter-append}
use Rattle.std.proofs.lemmas.Bool.{and_parts}
use Rattle.strm_msg.specs.Message.{Msg, rank_of}
use Rattle.strm_queue.specs.Queue.{is_flushed, flush_of, put_in, put_back_in}
use Rattle.strm_queue.specs.Lanes.{Ranked, is_of_rank, is_laned, messages_of, spare_of, IsPlace, StaysEmpty}
use Rattle.strm_queue.proofs.FrontLemmas.{set-empty}
use Rattle.strm_queue.proofs.ListLemmas.{all_filter, filter_ext, filter_twice}
use Rattle.strm_queue.proofs.PlaceLemmas.{lane_at, stands-place, is_laned-set, spare-set, length-set_lane, put_in-set, put_back_in-set, first-set, flush-set}

pub on_ok : {A E : Type 0} (r : Result A E) (P Q : Type 0) → (P → Q) → OnOk r P → OnOk r Q
on_ok (Ok x) P Q f p = f p
on_ok (Err e) P Q f p = tt

pub on_any_err : {A E : Type 0} (r : Result A E) (Q : Type 0) → Q → OnErr r Q
on_any_err (Ok x) Q q = tt
on_any_err (Err e) Q q = q

module _ (lanes : List Ranked) (at : ℕ) (lane new : Ranked) (less : at < length lanes) (is : lane ≡ get_or lanes at lane) (same : new.rank ≡ lane.rank) where
  its_rank : new.rank ≡ (get_or lanes at lane).rank
  its_rank = same ∙ ap (λ (x : Ranked). x.rank) is

  -- what stood in the lane stands in it
  pub stood : is_laned lanes ≡ true → list_all (is_of_rank lane.rank) lane.messages ≡ true
  stood h = subst (λ (x : Ranked). list_all (is_of_rank x.rank) x.messages ≡ true) (sym is) (stands-place lanes at lane h less)

  pub changed-laned : is_laned lanes ≡ true → list_all (is_of_rank lane.rank) new.messages ≡ true → is_laned (set lanes at new) ≡ true
  changed-laned h stands = is_laned-set new lane lanes at h less its_rank (subst (λ rank. list_all (is_of_rank rank) new.messages ≡ true) (sym same) stands)

  pub changed-spare : (lost : ℕ) → lane.spare ≤ new.spare + lost → (other : ℕ) → spare_of other lanes ≤ spare_of other (set lanes at new) + lost
  changed-spare lost spare other = spare-set new lane lost other lanes at less its_rank (subst (λ (x : Ranked). x.spare ≤ new.spare + lost) is spare)

  pub unspent : lane.spare ≤ new.spare → (other : ℕ) → spare_of other lanes ≤ spare_of other (set lanes at new)
  unspent spare other = let le = changed-spare 0 (omega (arith, spare)) other in omega (arith, le)

  pub unchanged : new.messages ≡ lane.messages → messages_of (set lanes at new) ≡ messages_of lanes
  unchanged messages = same_messages lanes at less (messages ∙ ap (λ (x : Ranked). x.messages) is)
    where
      same_messages : (lanes : List Ranked) (at : ℕ) → at < length lanes → new.messages ≡ (get_or lanes at lane).messages → messages_of (set lanes at new) ≡ messages_of lanes
      same_messages [] at less e = absurd (omega arith)
      same_messages (x ∷ xs) zero less e = rw e refl
      same_messages (x ∷ xs) (suc i) less e = ap (λ ys. x.messages ++ ys) (same_messages xs i (omega arith) e)

  -- the lanes at the front stay empty where the lane does
  pub stays-empty : (lane.messages ≡ [] → new.messages ≡ []) → StaysEmpty lanes (set lanes at new)
  stays-empty none = set-empty new lane lanes at (λ empty. none (ap (λ (x : Ranked). x.messages) is ∙ empty))

  pub flush-empty : new.messages ≡ flush_of lane.messages → StaysEmpty lanes (set lanes at new)
  flush-empty e = stays-empty (λ none. rw (e, none) refl)

  pub put-behind : (m : Msg) → is_laned lanes ≡ true → lane.rank ≡ rank_of m → new.messages ≡ lane.messages ++ m ∷ [] → messages_of (set lanes at new) ≡ put_in (messages_of lanes) m
  put-behind m h rank e = put_in-set new lane m lanes at h less (ap (λ (x : Ranked). x.rank) (sym is) ∙ rank) (e ∙ ap (λ (x : Ranked). x.messages ++ m ∷ []) is)

  pub put-before : (m : Msg) → is_laned lanes ≡ true → lane.rank ≡ rank_of m → new.messages ≡ m ∷ lane.messages → messages_of (set lanes at new) ≡ put_back_in (messages_of lanes) m
  put-before m h rank e = put_back_in-set new lane m lanes at h less (ap (λ (x : Ranked). x.rank) (sym is) ∙ rank) (e ∙ ap (λ (x : Ranked). m ∷ x.messages) is)

  pub taken : (m : Msg) → messages_of (take at lanes) ≡ [] → lane.messages ≡ m ∷ new.messages → messages_of lanes ≡ m ∷ messages_of (set lanes at new)
  taken m empty e = first-set new lane m lanes at less empty (ap (λ (x : Ranked). x.messages) (sym is) ∙ e)

  pub flushed : is_laned lanes ≡ true → new.messages ≡ flush_of lane.messages → messages_of (set lanes at new) ≡ filter (λ m. not (is_flushed m.kind && is_of_rank lane.rank m)) (messages_of lanes)
  flushed h e =
      subst (λ (x : Ranked). messages_of (set lanes at new) ≡ filter (λ m. not (is_flushed m.kind && is_of_rank x.rank m)) (messages_of lanes)) (sym is) (flush-set new lane lanes at h less (e ∙ ap (λ (x : Ranked). flush_of x.messages) is))

  pub counted : length (messages_of (set lanes at new)) + length lane.messages ≡ length (messages_of lanes) + length new.messages
  counted = subst (λ (x : Ranked). length (messages_of (set lanes at new)) + length x.messages ≡ length (messages_of lanes) + length new.messages) (sym is) (length-set_lane new lane lanes at less)

  pub flushed-laned : is_laned lanes ≡ true → new.messages ≡ flush_of lane.messages → is_laned (set lanes at new) ≡ true
  flushed-laned h e = changed-laned h (rw e (all_filter (is_of_rank lane.rank) (λ (m : Msg). not (is_flushed m.kind)) lane.messages (stood h)))

-- the first message stands in the first lane that has one
pub first-get : (d : Ranked) (lanes : List Ranked) (at : ℕ) → at < length lanes → messages_of (take at lanes) ≡ [] → 0 < length (get_or lanes at d).messages → slice_get (messages_of lanes) 0 ≡ slice_get (get_or lanes at d).messages 0
first-get d [] at less empty some = absurd (omega arith)
first-get d (lane ∷ lanes) zero less empty some = front lane.messages some
  where
    front : (q : List Msg) → 0 < length q → slice_get (q ++ messages_of lanes) 0 ≡ slice_get q 0
    front [] less = absurd (omega arith)
    front (x ∷ q) less = refl
first-get d (lane ∷ lanes) (suc i) less empty some =
    let sum : length lane.messages + length (messages_of (take i lanes)) ≡ 0 = rw (← length-append lane.messages (messages_of (take i lanes)), empty) refl in
    let none : lane.messages ≡ [] = nil_from_length lane.messages (omega (arith, sum)) in
    let rest : messages_of (take i lanes) ≡ [] = nil_from_length (messages_of (take i lanes)) (omega (arith, sum)) in
    rw none (first-get d lanes i (omega arith) rest some)

-- a place in the first of two lists, and one behind it
pub slice_get-front : {X : Type 0} (xs ys : List X) (i : ℕ) → i < length xs → slice_get (xs ++ ys) i ≡ slice_get xs i
slice_get-front [] ys i less = absurd (omega arith)
slice_get-front (x ∷ xs) ys zero less = refl
slice_get-front (x ∷ xs) ys (suc i) less = slice_get-front xs ys i (omega arith)

pub slice_get-behind : {X : Type 0} (xs ys : List X) (i j : ℕ) → i ≡ length xs + j → slice_get (xs ++ ys) i ≡ slice_get ys j
slice_get-behind [] ys i j e = let same : i ≡ j = omega (arith, e) in ap (slice_get ys) same
slice_get-behind (x ∷ xs) ys zero j e = absurd (omega (arith, e))
slice_get-behind (x ∷ xs) ys (suc i) j e = slice_get-behind xs ys i j (omega (arith, e))

-- the lanes from a place on begin with the one that was read there
pub messages_of-drop : (lanes : List Ranked) (at : ℕ) (lane : Ranked) → at < length lanes → lane ≡ get_or lanes at lane → messages_of (drop at lanes) ≡ lane.messages ++ messages_of (drop (at + 1) lanes)
messages_of-drop lanes at lane less is = rw (add-one at, drop-cons lanes at lane less) (ap (λ (x : Ranked). x.messages ++ messages_of (drop (suc at) lanes)) (sym is))

-- flushes of one lane after another
module _ (lanes : List Ranked) (at : ℕ) (lane new : Ranked) (less : at < length lanes) (is : lane ≡ get_or lanes at lane) (is_flush : new.messages ≡ flush_of lane.messages) where
  flush_again : (q : List Msg) → flush_of (flush_of q) ≡ flush_of q
  flush_again q = filter_twice (λ (m : Msg). not (is_flushed m.kind)) (λ (m : Msg). not (is_flushed m.kind)) q ∙ filter_ext (λ (m : Msg). not (is_flushed m.kind) && not (is_flushed m.kind)) (λ (m : Msg). not (is_flushed m.kind)) q (λ m. twice (not (is_flushed m.kind)))
    where
      twice : (b : Bool) → (b && b) ≡ b
      twice true = refl
      twice false = refl

  -- what a flush of all leaves is the same after that of one
  pub flush-one : flush_of (messages_of (set lanes at new)) ≡ flush_of (messages_of lanes)
  flush-one = by_place lanes at less (is_flush ∙ ap (λ (x : Ranked). flush_of x.messages) is)
    where
      by_place : (lanes : List Ranked) (at : ℕ) → at < length lanes → new.messages ≡ flush_of (get_or lanes at lane).messages → flush_of (messages_of (set lanes at new)) ≡ flush_of (messages_of lanes)
      by_place [] at less e = absurd (omega arith)
      by_place (x ∷ xs) zero less e =
          let stays = λ (m : Msg). not (is_flushed m.kind) in
          rw (filter-append stays new.messages (messages_of xs), filter-append stays x.messages (messages_of xs), e, flush_again x.messages) refl
      by_place (x ∷ xs) (suc i) less e =
          let stays = λ (m : Msg). not (is_flushed m.kind) in
          rw (filter-append stays x.messages (messages_of (set xs i new)), filter-append stays x.messages (messages_of xs)) (ap (λ ys. flush_of x.messages ++ ys) (by_place xs i (omega arith) e))

  -- one lane more is flushed
  pub flushed-more : flush_of (messages_of (take at lanes)) ≡ messages_of (take at lanes) → flush_of (messages_of (take (at + 1) (set lanes at new))) ≡ messages_of (take (at + 1) (set lanes at new))
  flushed-more done =
      let stays = λ (m : Msg). not (is_flushed m.kind) in
      let more : messages_of (take (at + 1) (set lanes at new)) ≡ messages_of (take at lanes) ++ new.messages = rw (add-one at, take-suc-set lanes at new less, flat_map-append (λ (x : Ranked). x.messages) (take at lanes) (new ∷ [])) (ap (λ q. messages_of (take at lanes) ++ q) (append-nil new.messages)) in
      let again : flush_of new.messages ≡ new.messages = rw is_flush (flush_again lane.messages) in
      rw (more, filter-append stays (messages_of (take at lanes)) new.messages) (rw (done, again) refl)

-- the first lane has what its first message leaves
pub left_standing : (rank : ℕ) (m : Msg) (q : List Msg) → list_all (is_of_rank rank) (m ∷ q) ≡ true → list_all (is_of_rank rank) q ≡ true
left_standing rank m q h = (and_parts (is_of_rank rank m) (list_all (is_of_rank rank) q) h).1

-- the room of a lane that was written at its place
pub spare-there : (rank : ℕ) (lanes : List Ranked) (at : ℕ) (new : Ranked) → is_laned (set lanes at new) ≡ true → at < length lanes → new.rank ≡ rank → spare_of rank (set lanes at new) ≡ new.spare
spare-there rank lanes at new h less same =
    let there = λ (d : Ranked). get_or-set_same lanes at new d less in
    let within : at < length (set lanes at new) = rw length-set less in
    let place : IsPlace rank at (set lanes at new) = (within, λ d. rw (there d) same) in
    ap (λ (x : Ranked). x.spare) (lane_at rank (set lanes at new) at new h place (sym (there new)))
