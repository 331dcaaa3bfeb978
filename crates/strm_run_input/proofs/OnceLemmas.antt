-- Pairs of a list of which the first was looked at.
use Rattle.std.proofs.Common.{◌≡◌, ℕ, ◌+◌, ◌-◌, ◌<◌, List, length, get_or, drop, sym, ◌∙◌, ap, subst, arith, below_more, length-drop, All}
use Rattle.std.specs.Prelude.{AllPairs}
use Rattle.std.proofs.lemmas.List.{get_or-drop}

module _ {X : Type 0} (R : X → X → Type 0) (xs : List X) where
  -- what stands behind one stands in the list, that much further on
  behind : (i j : ℕ) (d : X) → i < j → get_or (drop (i + 1) xs) (j - (i + 1)) d ≡ get_or xs j d
  behind i j d under =
      let further : i + 1 + (j - (i + 1)) ≡ j = omega arith in
      get_or-drop (i + 1) xs (j - (i + 1)) d ∙ ap (λ (n : ℕ). get_or xs n d) further

  -- the pairs of one more, and of each so far
  pub pairs_more : (i : ℕ) (one : X) → ((d : X) → one ≡ get_or xs i d) → All (R one) (drop (i + 1) xs) → ((k j : ℕ) (d : X) → k < i → k < j → j < length xs → R (get_or xs k d) (get_or xs j d)) → (k j : ℕ) (d : X) → k < i + 1 → k < j → j < length xs → R (get_or xs k d) (get_or xs j d)
  pairs_more i one is later before k j d below =
      below_more (λ (n : ℕ). n < j → j < length xs → R (get_or xs n d) (get_or xs j d)) i (λ n lower. before n j d lower) (λ under inside. subst (λ y. R (get_or xs i d) y) (behind i j d under) (subst (λ x. R x (get_or (drop (i + 1) xs) (j - (i + 1)) d)) (is d) (later (j - (i + 1)) d (omega (arith, length-drop (i + 1) xs))))) k below

  -- the pairs of this one, of those of all
  pub pairs_this : (i : ℕ) (one : X) → ((d : X) → one ≡ get_or xs i d) → AllPairs R xs → All (R one) (drop (i + 1) xs)
  pairs_this i one is all k d below =
      subst (λ y. R one y) (sym (get_or-drop (i + 1) xs k d)) (subst (λ x. R x (get_or xs (i + 1 + k) d)) (sym (is d)) (all i (i + 1 + k) d (omega arith) (omega (arith, length-drop (i + 1) xs))))
