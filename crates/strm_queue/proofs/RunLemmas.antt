-- Places that stand in a list at most once.
use Rattle.std.proofs.Common.{◌≡◌, ℕ, ◌<◌, ◌≤◌, ◌||◌, nat_eq, Bool, true, false, List, [], ◌∷◌, ◌++◌, length, cond, get_or, ap, sym, ◌∙◌, refl, arith}
use Rattle.std.specs.List.{list_any, IsDistinct}
use Rattle.std.proofs.lemmas.Cmp.{nat_eq_equiv}
use Rattle.std.proofs.lemmas.Bool.Decides.{nat_tests}
use Rattle.std.proofs.lemmas.List.Folds.{list_any-append}
use Rattle.std.proofs.lemmas.Map.Keys.{IsDistinct-push, IsDistinct-tail}
use Rattle.std.proofs.lemmas.Map.Steps.{length-le_from_distinct_below}
use Rattle.std.proofs.lemmas.Bool.{or_right, or_left}
use Rattle.strm_queue.specs.Run.{is_listed, AreOnce}

-- the test of a list the other way round
pub stands_turned : (p : ℕ) (items : List ℕ) → list_any (λ x. nat_eq x p) items ≡ is_listed p items
stands_turned p [] = refl
stands_turned p (x ∷ items) = rw (nat_eq_equiv.symm x p) (ap (λ b. nat_eq p x || b) (stands_turned p items))

or_last : (a b : Bool) → (a || (b || false)) ≡ (a || b)
or_last true b = refl
or_last false true = refl
or_last false false = refl

-- who stands in a list with one more behind it
pub stands_behind : (q p : ℕ) (items : List ℕ) → is_listed q (items ++ p ∷ []) ≡ (is_listed q items || nat_eq q p)
stands_behind q p items = list_any-append (nat_eq q) items (p ∷ []) ∙ or_last (is_listed q items) (nat_eq q p)

or_same : (a b : Bool) → (b ≡ true → a ≡ true) → a ≡ (a || b)
or_same true b h = refl
or_same false true h = h refl
or_same false false h = refl

stands_as : (q p : ℕ) (items : List ℕ) → is_listed p items ≡ true → nat_eq q p ≡ true → is_listed q items ≡ true
stands_as q p items h e = let same : q ≡ p = grind (arith, nat_tests) in rw same h

-- who stands in a list in which a place was enabled
pub stands_with : (q p : ℕ) (items : List ℕ) (b : Bool) → is_listed p items ≡ b → is_listed q (cond b items (items ++ p ∷ [])) ≡ (is_listed q items || nat_eq q p)
stands_with q p items true h = or_same (is_listed q items) (nat_eq q p) (stands_as q p items h)
stands_with q p items false h = stands_behind q p items

or_cases : (a b : Bool) (C : Type 0) → (a || b) ≡ true → (a ≡ true → C) → (b ≡ true → C) → C
or_cases true b C h x y = x refl
or_cases false b C h x y = y h

-- one more place
pub once_behind : (n p : ℕ) (items : List ℕ) → AreOnce n items → p < n → is_listed p items ≡ false → AreOnce n (items ++ p ∷ [])
once_behind n p items a less h =
    let once = IsDistinct-push nat_eq_equiv items p a.once h in
    let below : (q : ℕ) → is_listed q (items ++ p ∷ []) ≡ true → q < n =
    λ q e. or_cases (is_listed q items) (nat_eq q p) (q < n) (sym (stands_behind q p items) ∙ e) (a.below q) (λ s. let same : q ≡ p = grind (arith, nat_tests) in rw same less) in
    record { once = once; below = below; few = length-le_from_distinct_below (items ++ p ∷ []) n once below }

-- without the first
pub once_rest : (n p : ℕ) (items : List ℕ) → AreOnce n (p ∷ items) → AreOnce n items
once_rest n p items a =
    record { once = IsDistinct-tail nat_eq p items a.once; below = λ q e. a.below q (or_right (nat_eq q p) (is_listed q items) e); few = let f : length (p ∷ items) ≤ n = a.few in omega arith }

-- the first is below n
pub first_below : (n p : ℕ) (items : List ℕ) → AreOnce n (p ∷ items) → p < n
first_below n p items a = a.below p (or_left (nat_eq p p) (is_listed p items) (nat_eq_equiv.refl p))

none_below : (p n : ℕ) → is_listed p [] ≡ true → p < n
none_below p n e = cc

-- no place
pub once_none : (n : ℕ) → AreOnce n []
unfolding IsDistinct
once_none n = record { once = tt; below = λ p e. none_below p n e; few = omega arith }

-- what stands at the front is below n
pub front_below : (n x : ℕ) (items : List ℕ) → AreOnce n items → x ≡ get_or items 0 x → 0 < length items → x < n
front_below n x [] a e some = absurd (omega arith)
front_below n x (y ∷ items) a e some = rw e (first_below n y items a)
