-- The topmost module of a name that is the program's, as a loop over the modules finds it.
use Rattle.std.proofs.Common.{◌≡◌, ◌≤◌, ◌+◌, ◌&&◌, ℕ, Bool, true, false, cond, Option, Some, None, List, [], ◌∷◌, length, drop, slice_get, option_map, refl, ap, arith, zero, suc}
use Rattle.std.specs.Str.{bytes_eq}
use Rattle.std.proofs.lemmas.List.{drop_all}
use Rattle.strm_module.specs.declared.shape.Shape.{Shape}
use Rattle.strm_chain_end.specs.Pair.{QueuePair}
use Rattle.strm_chain_end.specs.End.{pair_at}
use Rattle.strm_head_service.specs.Served.{programs_from}
use native.Mathlib.Numerals.{unary_clauses}

abbrev is_programs : {K : Type 0} → List ℕ → Shape K → Bool
is_programs name shape = shape.noenable && bytes_eq shape.name.items name

-- one module is looked at
found_step : {K : Type 0} (name : List ℕ) (modules : List (QueuePair K)) (i n : ℕ) (shape : Shape K) → option_map (λ s. s.shape) (slice_get modules i) ≡ Some shape → programs_from n name (drop i modules) ≡ cond (is_programs name shape) (Some n) (programs_from (n + 1) name (drop (suc i) modules))
found_step name [] i n shape h = cc
found_step name (s ∷ modules) zero n shape h =
    let same : s.shape ≡ shape = cc in ap (λ x. cond (is_programs name x) (Some n) (programs_from (n + 1) name modules)) same
found_step name (s ∷ modules) (suc i) n shape h = found_step name modules i n shape h

above : {K : Type 0} (modules : List (QueuePair K)) (i : ℕ) → pair_at modules (i + 1) ≡ slice_get modules i
above modules i = simp unary_clauses refl

step : {K : Type 0} (name : List ℕ) (modules : List (QueuePair K)) (i n : ℕ) (shape : Shape K) (b : Bool) → Some shape ≡ option_map (λ s. s.shape) (pair_at modules (i + 1)) → b ≡ is_programs name shape → programs_from n name (drop i modules) ≡ cond b (Some n) (programs_from (n + 1) name (drop (i + 1) modules))
step name modules i n shape b found is =
    let num : i + 1 ≡ suc i = omega arith in
    rw (is, num) (found_step name modules i n shape (let at = above modules i in cc))

-- it is the one
pub programs_here : {K : Type 0} (name : List ℕ) (modules : List (QueuePair K)) (i n : ℕ) (shape : Shape K) (b : Bool) → Some shape ≡ option_map (λ s. s.shape) (pair_at modules (i + 1)) → b ≡ is_programs name shape → b ≡ true → programs_from n name (drop i modules) ≡ Some n
programs_here name modules i n shape true found is here = step name modules i n shape true found is
programs_here name modules i n shape false found is here = cc

-- or it is among those behind
pub programs_behind : {K : Type 0} (name : List ℕ) (modules : List (QueuePair K)) (i n : ℕ) (shape : Shape K) (b : Bool) → Some shape ≡ option_map (λ s. s.shape) (pair_at modules (i + 1)) → b ≡ is_programs name shape → b ≡ false → programs_from n name (drop i modules) ≡ programs_from (n + 1) name (drop (i + 1) modules)
programs_behind name modules i n shape true found is other = cc
programs_behind name modules i n shape false found is other = step name modules i n shape false found is

-- or there is none
pub programs_none : {K : Type 0} (name : List ℕ) (modules : List (QueuePair K)) (i n : ℕ) → length modules ≤ i → programs_from n name (drop i modules) ≡ None
programs_none name modules i n far = rw (drop_all i modules far) refl
