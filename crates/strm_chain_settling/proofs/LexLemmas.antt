-- Counts that fall by rank come to an end.
use Rattle.std.proofs.Common.{◌≡◌, ◌<◌, ◌⊎◌, inl, inr, ℕ, zero, suc, List, [], ◌∷◌, length, refl, ◌∙◌, ap, subst, sym, arith}

-- one takes from a count, leaves those before it, and changes all behind it as it likes
abbrev pub Falls : List ℕ → List ℕ → Type 0
Falls [] ns = ⊥
Falls (m ∷ ms) [] = ⊥
Falls (m ∷ ms) (n ∷ ns) = ((m < n) × (length ms ≡ length ns)) ⊎ ((m ≡ n) × Falls ms ns)

-- counts that cannot fall for ever
pub data Descends : List ℕ → Type 0 where
  rule : (ns : List ℕ) → ((ms : List ℕ) → Falls ms ns → Descends ms) → Descends ns

same_length : (ms ns : List ℕ) → Falls ms ns → length ms ≡ length ns
same_length [] ns h = absurd h
same_length (m ∷ ms) [] h = absurd h
same_length (m ∷ ms) (n ∷ ns) (inl h) = ap suc h.1
same_length (m ∷ ms) (n ∷ ns) (inr h) = ap suc (same_length ms ns h.1)

-- where all shorter lists end, and those with a lesser first count
inner : (n k : ℕ) → ((m : ℕ) (ms : List ℕ) → m < n → length ms ≡ k → Descends (m ∷ ms)) → (ns : List ℕ) → length ns ≡ k → Descends ns → Descends (n ∷ ns)
inner n k less ns long (rule _ all) =
    rule (n ∷ ns) (λ ms. elim ms as (λ ms. Falls ms (n ∷ ns) → Descends ms) [
      | [] ↦ λ h. absurd h
      | m ∷ ms ↦ λ h. elim h [
        | inl f ↦ less m ms f.0 (f.1 ∙ long)
        | inr f ↦ subst (λ i. Descends (i ∷ ms)) (sym f.0) (inner n k less ms (same_length ms ns f.1 ∙ long) (all ms f.1))
      ]
    ])

below : (k : ℕ) → ((ns : List ℕ) → length ns ≡ k → Descends ns) → (bound n : ℕ) (ns : List ℕ) → n < bound → length ns ≡ k → Descends (n ∷ ns)
below k all zero n ns h long = absurd (omega arith)
below k all (suc bound) n ns h long = inner n k (λ m ms less same. below k all bound m ms (omega arith) same) ns long (all ns long)

ends_of : (k : ℕ) (ns : List ℕ) → length ns ≡ k → Descends ns
ends_of zero [] long = rule [] (λ ms. elim ms as (λ ms. Falls ms [] → Descends ms) [ [] ↦ λ h. absurd h | m ∷ ms ↦ λ h. absurd h ])
ends_of zero (n ∷ ns) long = absurd (omega arith)
ends_of (suc k) [] long = absurd (omega arith)
ends_of (suc k) (n ∷ ns) long = below k (λ ms same. ends_of k ms same) (suc n) n ns (omega arith) (omega arith)

pub all_end : (ns : List ℕ) → Descends ns
all_end ns = ends_of (length ns) ns refl
