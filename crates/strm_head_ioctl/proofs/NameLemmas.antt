-- The names of modules, one after another, and modules that are handed out.
use Rattle.std.proofs.Common.{◌≡◌, ℕ, ◌+◌, List, [], ◌∷◌, Some, map, length, suc, zero, refl, ap}
use Rattle.std.specs.Prelude.{slice_get, option_map, get_or}
use Rattle.arrayvec.specs.ArrayVec.{ArrayVec}
use Rattle.strm_module.specs.declared.shape.Shape.{Shape}
use Rattle.strm_chain_end.specs.Pair.{QueuePair}
use Rattle.strm_chain_end.specs.End.{pair_at}
use native.Mathlib.Numerals.{unary_clauses}

pair_above : {K : Type 0} (modules : List (QueuePair K)) (i : ℕ) → pair_at modules (i + 1) ≡ slice_get modules i
pair_above modules i = simp unary_clauses refl

name_found : {K : Type 0} (modules : List (QueuePair K)) (i : ℕ) (shape : Shape K) (d : ArrayVec ℕ) → option_map (λ s. s.shape) (slice_get modules i) ≡ Some shape → get_or (map (λ s. s.shape.name) modules) i d ≡ shape.name
name_found [] i shape d h = cc
name_found (s ∷ modules) zero shape d h = let same : s.shape ≡ shape = cc in ap (λ x. x.name) same
name_found (s ∷ modules) (suc i) shape d h = name_found modules i shape d h

-- the name of a module that was found
pub name_at : {K : Type 0} (modules : List (QueuePair K)) (i : ℕ) (shape : Shape K) (d : ArrayVec ℕ) → Some shape ≡ option_map (λ s. s.shape) (pair_at modules (i + 1)) → get_or (map (λ s. s.shape.name) modules) i d ≡ shape.name
name_at modules i shape d h =
    name_found modules i shape d (let at = pair_above modules i in cc)

-- modules that are handed out, by their shapes
pub some_shapes : {K : Type 0} (modules : List (QueuePair K)) → map (λ s. Some s.shape) modules ≡ map (λ s. Some s) (map (λ s. s.shape) modules)
some_shapes [] = refl
some_shapes (s ∷ modules) = ap (λ l. Some s.shape ∷ l) (some_shapes modules)

-- a module has one name
pub as_many_names : {K : Type 0} (modules : List (QueuePair K)) → length (map (λ s. s.shape.name) modules) ≡ length modules
as_many_names [] = refl
as_many_names (s ∷ modules) = ap (λ n. suc n) (as_many_names modules)
