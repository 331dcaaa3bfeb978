-- Lists that a flush passes, and modules of which one is set.
use Rattle.std.proofs.Common.{◌⊎◌, inl, inr, ◌≡◌, ◌∙◌, ◌≤◌, ◌&&◌, not, ℕ, Bool, true, false, Option, Some, None, List, [], ◌∷◌, length, map, filter, slice_get, slice_set, refl, sym, ap, arith, suc, zero}
use Rattle.std.proofs.lemmas.List.Sums.{length-filter, count_by-le-length}
use Rattle.std.proofs.lemmas.Option.{slice_get_within, get_or_from_slice_get}
use Rattle.std.proofs.Math.Seq.{map-set_same}
use Rattle.strm_chain_ends.proofs.CalmLemmas.{le_same}
use Rattle.strm_chain_ends.proofs.FrameLemmas.{filter-short}
use Rattle.strm_msg.specs.Message.{Msg}
use Rattle.strm_queue.specs.Queue.{is_flushed, is_of_band}
use Rattle.strm_chain_end.specs.Pair.{QueuePair, flushed_if}
use Rattle.strm_chain_end.specs.End.{pair_at, set_pair}

pub not_both : {X : Type 0} (b : Bool) → b ≡ true → b ≡ false → X
not_both true h k = cc
not_both false h k = cc

-- a flush makes no list longer
pub flush_short : (wanted : Bool) (band : Option ℕ) (q : List Msg) → length (flushed_if wanted band q) ≤ length q
flush_short false band q = le_same (length q)
flush_short true None q = filter-short (λ m. not (is_flushed m.kind)) q
flush_short true (Some b) q = filter-short (λ m. not (is_flushed m.kind && is_of_band b m)) q

-- the module that is set, and the others
slice_found : {K : Type 0} (xs : List (QueuePair K)) (i j : ℕ) (s t : QueuePair K) → slice_get xs i ≡ Some s → ((j ≡ i) × (slice_get xs j ≡ Some s) × (slice_get (slice_set xs i t) j ≡ Some t)) ⊎ (slice_get (slice_set xs i t) j ≡ slice_get xs j)
slice_found [] i j s t at = cc
slice_found (x ∷ xs) zero zero s t at = inl (refl, at, refl)
slice_found (x ∷ xs) zero (suc j) s t at = inr refl
slice_found (x ∷ xs) (suc i) zero s t at = inr refl
slice_found (x ∷ xs) (suc i) (suc j) s t at =
    elim (slice_found xs i j s t at) [
      | inl h ↦ inl (ap suc h.0, h.1, h.2)
      | inr h ↦ inr h
    ]

pub set_found : {K : Type 0} (xs : List (QueuePair K)) (i j : ℕ) (s t : QueuePair K) → pair_at xs i ≡ Some s → ((j ≡ i) × (pair_at xs j ≡ Some s) × (pair_at (set_pair xs i t) j ≡ Some t)) ⊎ (pair_at (set_pair xs i t) j ≡ pair_at xs j)
set_found xs zero j s t at = cc
set_found xs (suc i) zero s t at = inr refl
set_found xs (suc i) (suc j) s t at =
    elim (slice_found xs i j s t at) [
      | inl h ↦ inl (ap suc h.0, h.1, h.2)
      | inr h ↦ inr h
    ]

-- what is told of the modules stays, if it is told of the new one too
pub set_mapped : {K X : Type 0} (f : QueuePair K → X) (xs : List (QueuePair K)) (i : ℕ) (s t : QueuePair K) → pair_at xs i ≡ Some s → f t ≡ f s → map f (set_pair xs i t) ≡ map f xs
set_mapped f xs zero s t at same = refl
set_mapped f xs (suc i) s t at same =
    map-set_same f xs i t s (same ∙ ap f (sym (get_or_from_slice_get xs i s s at)))

-- a module that is there has a number from 1 on
pub found_first : {K : Type 0} (xs : List (QueuePair K)) (i : ℕ) (s : QueuePair K) → pair_at xs i ≡ Some s → 1 ≤ i
found_first xs zero s at = cc
found_first xs (suc i) s at = omega arith

pub found_last : {K : Type 0} (xs : List (QueuePair K)) (i : ℕ) (s : QueuePair K) → pair_at xs i ≡ Some s → i ≤ length xs
found_last xs zero s at = cc
found_last xs (suc i) s at = let h = slice_get_within xs i s at in omega (arith, h)
