-- The messages of a module's queue are changed: the modules stay, and nothing goes round that did not.
use Rattle.std.proofs.Common.{◌≡◌, ℕ, Bool, Option, Some, None, List, [], ◌∷◌, map, slice_get, slice_set, refl, sym, ap, suc, zero}
use Rattle.strm_msg.specs.Message.{Msg}
use Rattle.strm_msg.specs.declared.words.End.{End}
use Rattle.strm_msg.specs.declared.words.Side.{Side}
use Rattle.strm_msg.specs.declared.words.Side.TheVariants.{Rd, Wr}
use Rattle.strm_module.specs.Kinds.{Meaning}
use Rattle.strm_module.specs.declared.shape.Shape.{Shape}
use Rattle.strm_chain_end.specs.Change.{found_with, with_queue}
use Rattle.strm_chain_end.specs.End.{EndState, pair_at, set_pair}
use Rattle.strm_chain_end.specs.Modules.{SameEnd, identity_of}
use Rattle.strm_chain_end.specs.Pair.{QueuePair, with_list}
use Rattle.strm_chain_ends.specs.Image.{Image, end_of, with_end}
use Rattle.strm_chain_ends.specs.Order.{IsOrdered}
use Rattle.strm_chain_ends.specs.Same.{SameModules}
use Rattle.strm_chain_ends.proofs.OrderLemmas.{ways_of, end_ordered}
use Rattle.strm_chain.proofs.QuietLemmas.{same_end}
use Rattle.strm_chain.proofs.SameLemmas.{with_end_keeps}

list_shape : {K : Type 0} (s : QueuePair K) (side : Side) (q : List Msg) → (with_list s side q).shape ≡ s.shape
list_shape s Rd q = refl
list_shape s Wr q = refl

-- a module that is replaced by one of its shape
slice_shapes : {K B : Type 0} (f : Shape K → B) (xs : List (QueuePair K)) (i : ℕ) (old new : QueuePair K) → slice_get xs i ≡ Some old → new.shape ≡ old.shape → map (λ s. f s.shape) (slice_set xs i new) ≡ map (λ s. f s.shape) xs
slice_shapes f [] i old new at same = cc
slice_shapes f (x ∷ xs) zero old new at same =
    let first : x.shape ≡ old.shape = ap (λ s. s.shape) (let is : x ≡ old = cc in is) in
    rw (same, first) refl
slice_shapes f (x ∷ xs) (suc i) old new at same = ap (λ l. f x.shape ∷ l) (slice_shapes f xs i old new at same)

set_shapes : {K B : Type 0} (f : Shape K → B) (xs : List (QueuePair K)) (i : ℕ) (old new : QueuePair K) → pair_at xs i ≡ Some old → new.shape ≡ old.shape → map (λ s. f s.shape) (set_pair xs i new) ≡ map (λ s. f s.shape) xs
set_shapes f xs zero old new at same = cc
set_shapes f xs (suc i) old new at same = slice_shapes f xs i old new at same

found_shapes : {K B : Type 0} (f : Shape K → B) (e : EndState K) (i : ℕ) (found : Option (QueuePair K)) (side : Side) (q : List Msg) → pair_at e.modules i ≡ found → map (λ s. f s.shape) (found_with e i found side q).modules ≡ map (λ s. f s.shape) e.modules
found_shapes f e i None side q at = refl
found_shapes f e i (Some s) side q at = set_shapes f e.modules i s (with_list s side q) at (list_shape s side q)

found_same : {K : Type 0} (e : EndState K) (i : ℕ) (found : Option (QueuePair K)) (side : Side) (q : List Msg) → pair_at e.modules i ≡ found → SameEnd e (found_with e i found side q)
found_same e i None side q at = same_end e
found_same e i (Some s) side q at =
    record {
      is_open = refl;
      drv_marks = refl;
      modules = found_shapes (λ shape. identity_of shape) e i (Some s) side q at;
      ids = record { next = refl; pending = refl; kept = λ none. refl; asked = refl; answer = λ none. refl };
    }

pub queue_keeps : {K : Type 0} (image : Image K) (e : End) (i : ℕ) (side : Side) (q : List Msg) → SameModules image (with_end image e (with_queue (end_of image e) i side q))
queue_keeps image e i side q =
    let end = end_of image e in
    with_end_keeps image e (with_queue end i side q) (found_same end i (pair_at end.modules i) side q refl)

pub queue_ordered : {K : Type 0} (means : Meaning K) (image : Image K) (e : End) (i : ℕ) (side : Side) (q : List Msg) → IsOrdered means image → IsOrdered means (with_end image e (with_queue (end_of image e) i side q))
queue_ordered {K = K} means image e i side q =
    let end = end_of image e in
    end_ordered means image e (with_queue end i side q)
    (found_shapes (λ (shape : Shape K). (means.answers shape.kind Rd, means.answers shape.kind Wr)) end i (pair_at end.modules i) side q refl)
