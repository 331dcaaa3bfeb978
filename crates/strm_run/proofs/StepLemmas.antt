-- Callers that go step by step.
use Rattle.std.proofs.Common.{◌≡◌, ℕ, zero, suc, ◌<◌, ◌≤◌, List, [], ◌∷◌, All, length, map, ap, arith}
use Rattle.std.specs.Prelude.{insert, remove, slice_index_or}

-- an element that goes back to its place with the number that it had changes no number
pub back_in_place : {X : Type 0} (f : X → ℕ) (xs : List X) (i : ℕ) (d y : X) → i < length xs → f y ≡ f (slice_index_or xs i d) → map f (insert (remove xs i) i y) ≡ map f xs
back_in_place f [] i d y below same = absurd (omega arith)
back_in_place f (x ∷ xs) zero d y below same = ap (λ n. n ∷ map f xs) same
back_in_place f (x ∷ xs) (suc i) d y below same = ap (λ l. f x ∷ l) (back_in_place f xs i d y (omega arith) same)

-- what is below a number is below a greater one
pub all_below : (turns : List ℕ) (n m : ℕ) → n ≤ m → All (λ turn. turn < n) turns → All (λ turn. turn < m) turns
all_below turns n m less all k d under = let low = all k d under in omega arith
