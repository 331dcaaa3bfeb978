-- The messages of one queue of a module are changed, as a program takes one or puts one back.
use Rattle.std.proofs.Common.{◌≡◌, ℕ, Option, Some, None, List, [], ◌∷◌, slice_get, slice_set, refl, sym, ◌∙◌, ap, suc, zero}
use Rattle.strm_msg.specs.Message.{Msg}
use Rattle.strm_msg.specs.declared.words.End.{End}
use Rattle.strm_msg.specs.declared.words.End.TheVariants.{A, B}
use Rattle.strm_msg.specs.declared.words.Side.{Side}
use Rattle.strm_msg.specs.declared.words.Side.TheVariants.{Rd, Wr}
use Rattle.strm_module.specs.Kinds.{Meaning}
use Rattle.strm_module.specs.declared.shape.Shape.{Shape}
use Rattle.strm_chain_end.specs.Change.{found_with, with_queue}
use Rattle.strm_chain_end.specs.End.{EndState, list_at, list_found, pair_at, set_pair}
use Rattle.strm_chain_end.specs.Offer.{turn_found}
use Rattle.strm_chain_end.specs.Pair.{QueuePair, list_on, with_list}
use Rattle.strm_chain_ends.specs.declared.place.NextQueue.TheVariants.{Of}
use Rattle.strm_chain_ends.specs.declared.place.Place.{Place}
use Rattle.strm_chain_ends.specs.Flow.{turn_of}
use Rattle.strm_chain_ends.specs.Held.{DiffersIn, IsShift, module_place}
use Rattle.strm_chain_ends.specs.Image.{Image, end_of, with_end}
use Rattle.strm_chain_ends.specs.Same.{SameModules}
use Rattle.strm_chain_ends.proofs.FrameLemmas.{QueueAlone, PairAlone, queue_stays, queue_changes, set_alone, with_list_alone}

list_alone : {K : Type 0} (s : QueuePair K) (side : Side) (q : List Msg) → IsShift (list_on s side) q → PairAlone s (with_list s side q) side
list_alone s Rd q shift = with_list_alone s s.shape Rd q shift
list_alone s Wr q shift = with_list_alone s s.shape Wr q shift

found_alone : {K : Type 0} (e : EndState K) (i : ℕ) (found : Option (QueuePair K)) (side : Side) (q : List Msg) → pair_at e.modules i ≡ found → IsShift (list_found found side) q → QueueAlone e (found_with e i found side q) i side
found_alone e i None side q at shift = queue_stays e i side
found_alone e i (Some s) side q at shift = set_alone e i side s (with_list s side q) at (list_alone s side q shift)

-- no other queue differs
pub queue_differs : {K : Type 0} (image new : Image K) (e : End) (i : ℕ) (side : Side) (q : List Msg) → SameModules image new → IsShift (list_at (end_of image e) i side) q → new ≡ with_end image e (with_queue (end_of image e) i side q) → DiffersIn image new (Of (module_place side e i))
queue_differs image new e i side q same shift is =
    let end = end_of image e in
    queue_changes image e (with_queue end i side q) i side new same is (found_alone end i (pair_at end.modules i) side q refl shift)

list_shape : {K : Type 0} (s : QueuePair K) (side : Side) (q : List Msg) → (with_list s side q).shape ≡ s.shape
list_shape s Rd q = refl
list_shape s Wr q = refl

-- and no turn
module _ {K : Type 0} (means : Meaning K) where
  slice_turn : (xs : List (QueuePair K)) (i j : ℕ) (t : Side) (old new : QueuePair K) → slice_get xs i ≡ Some old → new.shape ≡ old.shape → turn_found means (slice_get (slice_set xs i new) j) t ≡ turn_found means (slice_get xs j) t
  slice_turn [] i j t old new at same = cc
  slice_turn (x ∷ xs) zero zero t old new at same =
      let first : x ≡ old = cc in
      ap (λ (shape : Shape K). means.turn shape.kind t) (same ∙ sym (ap (λ (s : QueuePair K). s.shape) first))
  slice_turn (x ∷ xs) zero (suc j) t old new at same = refl
  slice_turn (x ∷ xs) (suc i) zero t old new at same = refl
  slice_turn (x ∷ xs) (suc i) (suc j) t old new at same = slice_turn xs i j t old new at same

  pair_turn : (xs : List (QueuePair K)) (i j : ℕ) (t : Side) (old new : QueuePair K) → pair_at xs i ≡ Some old → new.shape ≡ old.shape → turn_found means (pair_at (set_pair xs i new) j) t ≡ turn_found means (pair_at xs j) t
  pair_turn xs zero j t old new at same = cc
  pair_turn xs (suc i) zero t old new at same = refl
  pair_turn xs (suc i) (suc j) t old new at same = slice_turn xs i j t old new at same

  found_turn : (e : EndState K) (i j : ℕ) (found : Option (QueuePair K)) (side t : Side) (q : List Msg) → pair_at e.modules i ≡ found → turn_found means (pair_at (found_with e i found side q).modules j) t ≡ turn_found means (pair_at e.modules j) t
  found_turn e i j None side t q at = refl
  found_turn e i j (Some s) side t q at = pair_turn e.modules i j t s (with_list s side q) at (list_shape s side q)

  queue_turn : (e : EndState K) (i j : ℕ) (side t : Side) (q : List Msg) → turn_found means (pair_at (with_queue e i side q).modules j) t ≡ turn_found means (pair_at e.modules j) t
  queue_turn e i j side t q = found_turn e i j (pair_at e.modules i) side t q refl

  pub queue_turns : (image : Image K) (e : End) (i : ℕ) (side : Side) (q : List Msg) (p : Place) → turn_of means (with_end image e (with_queue (end_of image e) i side q)) p ≡ turn_of means image p
  queue_turns image A i side q (Place.Wr A j) = queue_turn image.a i j side Wr q
  queue_turns image A i side q (Place.Wr B j) = refl
  queue_turns image A i side q (Place.Rd A j) = queue_turn image.a i j side Rd q
  queue_turns image A i side q (Place.Rd B j) = refl
  queue_turns image A i side q (Place.Drv e) = refl
  queue_turns image B i side q (Place.Wr A j) = refl
  queue_turns image B i side q (Place.Wr B j) = queue_turn image.b i j side Wr q
  queue_turns image B i side q (Place.Rd A j) = refl
  queue_turns image B i side q (Place.Rd B j) = queue_turn image.b i j side Rd q
  queue_turns image B i side q (Place.Drv e) = refl
