-- Tests of all the elements of a list, and filters.
use Rattle.std.proofs.Common.{◌≡◌, ℕ, ◌<◌, ◌&&◌, not, ap, Bool, true, false, cond, List, [], ◌∷◌, ◌++◌, length, get_or, filter, refl, suc, zero, arith}
use Rattle.std.specs.List.{list_all}
use Rattle.std.specs.Cmp.Derive.{both_true}
use Rattle.std.proofs.lemmas.Bool.{and_parts}
use Rattle.strm_msg.specs.Message.{Msg}
use Rattle.strm_queue.specs.Queue.{is_flushed}

-- what passes one test passes another that is weaker
pub all_so : {X : Type 0} (p q : X → Bool) (xs : List X) → ((x : X) → p x ≡ true → q x ≡ true) → list_all p xs ≡ true → list_all q xs ≡ true
all_so p q [] so h = refl
all_so p q (x ∷ xs) so h = both_true (so x ((and_parts (p x) (list_all p xs) h).0)) (all_so p q xs so ((and_parts (p x) (list_all p xs) h).1))

-- lists that pass, one after another
pub all_both : {X : Type 0} (p : X → Bool) (xs ys : List X) → list_all p xs ≡ true → list_all p ys ≡ true → list_all p (xs ++ ys) ≡ true
all_both p [] ys h k = k
all_both p (x ∷ xs) ys h k = both_true ((and_parts (p x) (list_all p xs) h).0) (all_both p xs ys ((and_parts (p x) (list_all p xs) h).1) k)

pub all_get : {X : Type 0} (p : X → Bool) (xs : List X) (i : ℕ) (d : X) → list_all p xs ≡ true → i < length xs → p (get_or xs i d) ≡ true
all_get p [] i d h less = absurd (omega arith)
all_get p (x ∷ xs) zero d h less = (and_parts (p x) (list_all p xs) h).0
all_get p (x ∷ xs) (suc i) d h less = all_get p xs i d ((and_parts (p x) (list_all p xs) h).1) (omega arith)

-- what all elements pass, those that a filter leaves pass
pub all_filter : {X : Type 0} (test keep : X → Bool) (xs : List X) → list_all test xs ≡ true → list_all test (filter keep xs) ≡ true
all_filter test keep [] h = refl
all_filter test keep (x ∷ xs) h =
    let rest = all_filter test keep xs ((and_parts (test x) (list_all test xs) h).1) in
    elim (keep x) as (λ b. list_all test (cond b (x ∷ filter keep xs) (filter keep xs)) ≡ true) [
      | true ↦ both_true ((and_parts (test x) (list_all test xs) h).0) rest
      | false ↦ rest
    ]

-- two filters that agree where all elements pass a test
pub filter_so : {X : Type 0} (p q r : X → Bool) (xs : List X) → ((x : X) → p x ≡ true → q x ≡ r x) → list_all p xs ≡ true → filter q xs ≡ filter r xs
filter_so p q r [] so h = refl
filter_so p q r (x ∷ xs) so h =
    let rest = filter_so p q r xs so ((and_parts (p x) (list_all p xs) h).1) in
    rw (so x ((and_parts (p x) (list_all p xs) h).0), rest) refl

pub filter_true : {X : Type 0} (xs : List X) → filter (λ _. true) xs ≡ xs
filter_true [] = refl
filter_true (x ∷ xs) = rw (filter_true xs) refl

pub filter_false : {X : Type 0} (xs : List X) → filter (λ _. false) xs ≡ []
filter_false [] = refl
filter_false (x ∷ xs) = filter_false xs

pub all_true : {X : Type 0} (xs : List X) → list_all (λ _. true) xs ≡ true
all_true [] = refl
all_true (x ∷ xs) = all_true xs

-- two filters that agree
pub filter_ext : {X : Type 0} (q r : X → Bool) (xs : List X) → ((x : X) → q x ≡ r x) → filter q xs ≡ filter r xs
filter_ext q r [] so = refl
filter_ext q r (x ∷ xs) so = rw (so x, filter_ext q r xs so) refl

-- a filter after another
pub filter_twice : {X : Type 0} (p q : X → Bool) (xs : List X) → filter q (filter p xs) ≡ filter (λ x. p x && q x) xs
filter_twice p q [] = refl
filter_twice p q (x ∷ xs) =
    let rest = filter_twice p q xs in
    elim (p x) as (λ b. filter q (cond b (x ∷ filter p xs) (filter p xs)) ≡ cond (b && q x) (x ∷ filter (λ y. p y && q y) xs) (filter (λ y. p y && q y) xs)) [
      | true ↦ rw rest refl
      | false ↦ rest
    ]

pub and-true : (b : Bool) → (b && true) ≡ b
and-true true = refl
and-true false = refl

and-false : (b : Bool) → (b && false) ≡ false
and-false true = refl
and-false false = refl

-- where nothing passes a test, nothing is removed for passing it and another
pub none_flushed : (test : Msg → Bool) (q : List Msg) → filter test q ≡ [] → filter (λ m. not (is_flushed m.kind && test m)) q ≡ q
none_flushed test [] h = refl
none_flushed test (x ∷ q) h =
    elim (test x) as (λ b. test x ≡ b → filter (λ m. not (is_flushed m.kind && test m)) (x ∷ q) ≡ x ∷ q) [
      | true ↦ λ e. let more = rw e at h in cc
      | false ↦ λ e.
          let rest : filter test q ≡ [] = rw e at h in
          rw (e, and-false (is_flushed x.kind)) (ap (λ ys. x ∷ ys) (none_flushed test q rest))
    ] refl
