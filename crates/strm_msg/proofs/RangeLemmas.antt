-- A range of a range.
use Rattle.std.proofs.Common.{◌≡◌, ℕ, ◌+◌, ◌-◌, ◌≤◌, List, length, take, drop, slice_range, ap, ◌∙◌, arith, sym, subst, min, length-take}
use Rattle.std.proofs.lemmas.List.{drop-drop, take-take}
use Rattle.std.proofs.lemmas.Slice.{between_is}

-- it is a range of the whole
range_of_long : (xs : List ℕ) (s e a b : ℕ) → a ≤ b → s + b ≤ e → slice_range xs (s + a) (s + b) ≡ slice_range (slice_range xs s e) a b
range_of_long xs s e a b p q =
    let same : s + b - (s + a) ≡ b - a = omega arith in
    ap (λ n. take n (drop (s + a) xs)) same
    ∙ sym (take-take (b - a) (e - (s + a)) (drop (s + a) xs) (omega arith))
    ∙ sym (ap (take (b - a)) (ap (drop a) (between_is xs s e) ∙ drop-drop a s (take e xs) ∙ sym (between_is xs (s + a) e)))

-- where it ends within the range
pub range_of_range : (xs ys : List ℕ) (s e a b : ℕ) → ys ≡ slice_range xs s e → s ≤ e → a ≤ b → b ≤ length ys → slice_range xs (s + a) (s + b) ≡ slice_range ys a b
range_of_range xs ys s e a b is p q r =
    let most : length ys ≡ min (e - s) (length (drop s xs)) = ap length is ∙ length-take (e - s) (drop s xs) in
    range_of_long xs s e a b q (omega arith) ∙ ap (λ zs. slice_range zs a b) (sym is)
