-- A loop over a vector, one element on.
use Rattle.std.proofs.Common.{◌≡◌, ℕ, ◌+◌, suc, List, ◌∷◌, length, ap, ◌∙◌, arith}

-- what is left is as long as the loop says
pub rest_shorter : {A : Type 0} (left rest : List A) (one : A) (n m : ℕ) → n ≡ length left → left ≡ one ∷ rest → m + 1 ≡ n → m ≡ length rest
rest_shorter left rest one n m len is more =
    let all : m + 1 ≡ suc (length rest) = more ∙ len ∙ ap (λ l. length l) is in
    omega arith
