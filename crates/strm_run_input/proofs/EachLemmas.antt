-- What holds of each element that a loop has looked at.
use Rattle.std.proofs.Common.{◌≡◌, ℕ, suc, ◌+◌, ◌<◌, List, [], ◌∷◌, ◌++◌, length, get_or, sym, subst, arith, below_more, All}
use Rattle.std.proofs.lemmas.List.{get_or_read}
use Rattle.std.proofs.lemmas.List.Elements.{All-push}

-- of one more
pub each_more : {X : Type 0} (P : X → Type 0) (xs : List X) (i : ℕ) (x : X) → i < length xs → x ≡ get_or xs i x → ((k : ℕ) (d : X) → k < i → P (get_or xs k d)) → P x → (k : ℕ) (d : X) → k < i + 1 → P (get_or xs k d)
each_more P xs i x within is before here k d below =
    below_more (λ (n : ℕ). P (get_or xs n d)) i (λ n lower. before n d lower) (subst P (get_or_read xs i x within is d) here) k below

-- of one more that was pushed
pub each_pushed : {X : Type 0} (P : X → Type 0) (xs more : List X) (x : X) → more ≡ xs ++ x ∷ [] → All P xs → P x → All P more
each_pushed P xs more x is before here = subst (λ l. All P l) (sym is) (All-push P xs x before here)

-- of this one, as of all
pub of_this : {X : Type 0} (P : X → Type 0) (xs : List X) (i : ℕ) (x : X) → i < length xs → x ≡ get_or xs i x → All P xs → P x
of_this P xs i x within is all = subst P (sym is) (all i x within)

-- of the first, as of all
pub of_first : {X : Type 0} (P : X → Type 0) (left rest : List X) (one : X) → left ≡ one ∷ rest → All P left → P one
of_first P left rest one is all =
    let there = subst (λ l. All P l) is all in
    there 0 one (omega arith)

-- of the others, as of all
pub of_others : {X : Type 0} (P : X → Type 0) (left rest : List X) (one : X) → left ≡ one ∷ rest → All P left → All P rest
of_others P left rest one is all k d below =
    let there = subst (λ l. All P l) is all in
    there (suc k) d (omega arith)
