-- Work on values where they stand.
use Rattle.std.proofs.Common.{ℕ, zero, suc, ◌<◌, ◌++◌, List, [], ◌∷◌, length, slice_index_or, arith}
use denote.Ref.{MutBor}
use denote.Param.Members.{Shared}
use Rattle.strm_run_threads.specs.Chunks.{AreChanged, Changes}

module _ {F T : Type 0} (g : Shared F (MutBor T × Unit {0}) (Unit {0} × (MutBor T × Unit {0}))) (f : F) where
  rest : (x y : T) (before after : List T) → AreChanged g f (x ∷ before) (y ∷ after) → AreChanged g f before after
  rest x y before after is = record { many = omega (arith, is.many); each = λ k d below. is.each (suc k) d (omega arith) }

  -- what was done with each of the near and each of the far was done with each
  pub both_changed : (near far near_after far_after : List T) → AreChanged g f near near_after → AreChanged g f far far_after → AreChanged g f (near ++ far) (near_after ++ far_after)
  both_changed [] far [] far_after one other = other
  both_changed [] far (y ∷ near_after) far_after one other = absurd (omega (arith, one.many))
  both_changed (x ∷ near) far [] far_after one other = absurd (omega (arith, one.many))
  both_changed (x ∷ near) far (y ∷ near_after) far_after one other =
      let others = both_changed near far near_after far_after (rest x y near near_after one) other in
      record { many = omega (arith, others.many); each = each others }
    where
      each : AreChanged g f (near ++ far) (near_after ++ far_after) → (k : ℕ) (d : T) → k < length (x ∷ (near ++ far)) → Changes g f (slice_index_or (x ∷ (near ++ far)) k d) (slice_index_or (y ∷ (near_after ++ far_after)) k d)
      each others zero d below = one.each 0 d (omega arith)
      each others (suc k) d below = others.each k d (omega arith)
