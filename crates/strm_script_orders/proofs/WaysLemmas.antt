-- Pascal's triangle.
use Rattle.std.proofs.Common.{◌≡◌, ℕ, zero, suc, ◌+◌, ◌*◌, ◌-◌, ◌/◌, ◌^◌, ◌<◌, ◌≤◌, min, nat_lt, Bool, true, false, refl, sym, ap, ◌∙◌, arith}
use Rattle.std.proofs.lemmas.Bool.{ltb-true, ltb-false}
use Rattle.std.proofs.Math.Nat.{mul-div_cancel, mul-le-mul, mul-le-mul_left, mul-le-mul_right}
use Rattle.strm_script_orders.specs.Free.{ways}

-- how its numbers come
pub ways_none : (a : ℕ) → ways a zero ≡ 1
unfolding ways
ways_none zero = refl
ways_none (suc a) = refl

pub ways_first : (b : ℕ) → ways zero b ≡ 1
unfolding ways
ways_first b = refl

pub ways_more : (a b : ℕ) → ways (suc a) (suc b) ≡ ways a (suc b) + ways (suc a) b
unfolding ways
ways_more a b = refl

-- each is some
pub ways_some : (a b : ℕ) → 0 < ways a b
ways_some zero b = omega (arith, ways_first b)
ways_some (suc a) zero = omega (arith, ways_none (suc a))
ways_some (suc a) (suc b) = omega (arith, ways_more a b, ways_some a (suc b))

-- and at most the next
ways_grow : (a b : ℕ) → ways a b ≤ ways a (suc b)
ways_grow zero b = omega (arith, ways_first b, ways_first (suc b))
ways_grow (suc a) b = omega (arith, ways_more a b)

pub ways_within : (a b more : ℕ) → ways a b ≤ ways a (b + more)
ways_within a b zero = let same : b + 0 ≡ b = omega arith in omega (arith, ap (ways a) same)
ways_within a b (suc more) =
    let next : b + suc more ≡ suc (b + more) = omega arith in
    omega (arith, ways_within a b more, ways_grow a (b + more), ap (ways a) next)

-- who is first makes no difference
pub ways_same : (a b : ℕ) → ways a b ≡ ways b a
ways_same zero b = ways_first b ∙ sym (ways_none b)
ways_same (suc a) zero = ways_none (suc a) ∙ sym (ways_first (suc a))
ways_same (suc a) (suc b) =
    omega (arith, ways_more a b, ways_more b a, ways_same a (suc b), ways_same (suc a) b)

-- a step more of either, by multiplication
abbrev Across : ℕ → ℕ → Type 0
Across a b = ways a (suc b) * suc b ≡ ways a b * (a + suc b)

abbrev Down : ℕ → ℕ → Type 0
Down a b = ways (suc a) b * suc a ≡ ways a b * (a + suc b)

across_first : (b : ℕ) → Across zero b
across_first b = rw (ways_first b, ways_first (suc b)) (omega arith)

down_sum : (x y z a b : ℕ) → y * suc a ≡ z * (a + suc b) → x * suc b ≡ z * (a + suc b) → (x + y) * suc a ≡ x * (a + suc (suc b))
down_sum x y z a b down across = omega (arith, down, across)

across_sum : (x y z a b : ℕ) → x * suc (suc b) ≡ z * (a + suc (suc b)) → y * suc a ≡ z * (a + suc (suc b)) → (x + y) * suc (suc b) ≡ y * (suc a + suc (suc b))
across_sum x y z a b across down = omega (arith, across, down)

down_by : (a : ℕ) → ((b : ℕ) → Across a b) → (b : ℕ) → Down a b
down_by a across zero = rw (ways_none a, ways_none (suc a)) (omega arith)
down_by a across (suc b) = rw (ways_more a b) (down_sum (ways a (suc b)) (ways (suc a) b) (ways a b) a b (down_by a across b) (across b))

across_more : (a : ℕ) → ((b : ℕ) → Across a b) → ((b : ℕ) → Down a b) → (b : ℕ) → Across (suc a) b
across_more a across down zero =
    let one = rw (ways_none a) at (across zero) in
    rw (ways_more a zero, ways_none (suc a)) (omega (arith, one))
across_more a across down (suc b) = rw (ways_more a (suc b)) (across_sum (ways a (suc (suc b))) (ways (suc a) (suc b)) (ways a (suc b)) a b (across (suc b)) (down (suc b)))

pub across : (a b : ℕ) → Across a b
across zero b = across_first b
across (suc a) b = across_more a (across a) (down_by a (across a)) b

-- the next number of a row, by the one before it
pub ways_next : (many k before : ℕ) → before ≡ ways many k → before * (many + k + 1) / (k + 1) ≡ ways many (k + 1)
ways_next many k before is =
    let same : many + k + 1 ≡ many + suc k = omega arith in
    let next : k + 1 ≡ suc k = omega arith in
    ap (λ (n : ℕ). n * (many + k + 1) / (k + 1)) is
    ∙ ap (λ (n : ℕ). ways many k * n / (k + 1)) same
    ∙ ap (λ (n : ℕ). ways many k * (many + suc k) / n) next
    ∙ ap (λ (n : ℕ). n / suc k) (sym (across many k))
    ∙ mul-div_cancel (ways many (suc k)) (omega arith)
    ∙ ap (ways many) (sym next)

-- a number past the greatest stays past it
pub ways_past : (many k few most : ℕ) → k < few → most < ways many (k + 1) → most ≡ min (ways many few) most
ways_past many k few most below past =
    let whole : k + 1 + (few - (k + 1)) ≡ few = omega (arith, below) in
    omega (arith, past, ways_within many (k + 1) (few - (k + 1)), ap (ways many) whole)

-- two factors below 2 ^ 64 have a product below 2 ^ 128
pub product_fits : (a b : ℕ) → a < 2 ^ 64 → b < 2 ^ 64 → a * b < 2 ^ 128
product_fits a b small less =
    let most : a * b ≤ (2 ^ 64 - 1) * (2 ^ 64 - 1) = mul-le-mul {n₂ = 2 ^ 64 - 1} {m₂ = 2 ^ 64 - 1} (omega (arith, small)) (omega (arith, less)) in
    omega (arith, most)

-- the product of two numbers that stop at the greatest stops there too
pub product_stops : (x y most : ℕ) → 0 < x → 0 < y → 0 < most → min (min x most * min y most) most ≡ min (x * y) most
product_stops x y most some more any = by (nat_lt most x) (nat_lt most y) refl refl
  where
    past : (a b c e : ℕ) → most ≤ a * b → most ≤ c * e → min (a * b) most ≡ min (c * e) most
    past a b c e one other = omega (arith, one, other)

    -- a product by a number that is not 0
    by_some : (n k : ℕ) → 0 < k → n ≤ n * k
    by_some n k some = let of_one : n * 1 ≤ n * k = mul-le-mul_left n (omega (arith, some)) in omega (arith, of_one)

    by_some_left : (n k : ℕ) → 0 < k → n ≤ k * n
    by_some_left n k some = let of_one : 1 * n ≤ k * n = mul-le-mul_right n (omega (arith, some)) in omega (arith, of_one)

    by : (b c : Bool) → nat_lt most x ≡ b → nat_lt most y ≡ c → min (min x most * min y most) most ≡ min (x * y) most
    by true c is has =
        let great = ltb-true most x is in
        let stops : min x most ≡ most = omega (arith, great) in
        let least : 0 < min y most = omega (arith, more, any) in
        let whole = by_some x y more in
        rw stops (past most (min y most) x y (by_some most (min y most) least) (omega (arith, great, whole)))
    by false true is has =
        let great = ltb-true most y has in
        let stops : min y most ≡ most = omega (arith, great) in
        let least : 0 < min x most = omega (arith, some, any) in
        let whole = by_some_left y x some in
        rw stops (past (min x most) most x y (by_some_left most (min x most) least) (omega (arith, great, whole)))
    by false false is has =
        let first : min x most ≡ x = omega (arith, ltb-false most x is) in
        let second : min y most ≡ y = omega (arith, ltb-false most y has) in
        rw (first, second) refl
