-- The orders of those who await nobody are a product.
use Rattle.std.proofs.Common.{◌≡◌, ℕ, zero, suc, ◌+◌, ◌-◌, ◌*◌, ◌<◌, ◌≤◌, ◌^◌, min, List, [], ◌∷◌, length, drop, get_or, refl, sym, ap, ◌∙◌, arith}
use Rattle.std.proofs.lemmas.List.{drop_more}
use Rattle.std.proofs.lemmas.List.Sums.{sum_by-cons}
use Rattle.strm_script_orders.specs.Free.{free_orders, lefts, total, ways}
use Rattle.strm_script_orders.specs.Lanes.{LaneValue, left_of, steps_left}
use Rattle.strm_script_orders.proofs.WaysLemmas.{product_stops, ways_some}

pub free_none : free_orders [] ≡ 1
unfolding free_orders
free_none = refl

pub free_more : (steps : ℕ) (others : List ℕ) → free_orders (steps ∷ others) ≡ ways steps (total others) * free_orders others
unfolding free_orders
free_more steps others = refl

product_some : (x y : ℕ) → 0 < x → 0 < y → 0 < x * y
product_some (suc x) (suc y) some more = omega arith
product_some zero y some more = absurd (omega (arith, some))
product_some (suc x) zero some more = absurd (omega (arith, more))

pub free_some : (all : List ℕ) → 0 < free_orders all
free_some [] = omega (arith, free_none)
free_some (steps ∷ others) = rw (free_more steps others) (product_some (ways steps (total others)) (free_orders others) (ways_some steps (total others)) (free_some others))

-- the steps that are left, counted in either way
pub steps_total : (lanes : List LaneValue) → steps_left lanes ≡ total (lefts lanes)
unfolding steps_left
steps_total [] = refl
steps_total (lane ∷ rest) = sum_by-cons left_of lane rest ∙ ap (λ (n : ℕ). left_of lane + n) (steps_total rest)

pub total_behind : (i : ℕ) (lanes : List LaneValue) → total (lefts (drop i lanes)) ≤ total (lefts lanes)
total_behind zero lanes = omega arith
total_behind (suc i) [] = omega arith
total_behind (suc i) (lane ∷ rest) = omega (arith, total_behind i rest)

-- one lane more from the end
pub one_before : (lanes : List LaneValue) (number : ℕ) (lane : LaneValue) → 0 < number → number ≤ length lanes → lane ≡ get_or lanes (number - 1) lane → drop (number - 1) lanes ≡ lane ∷ drop number lanes
one_before lanes number lane some within is =
    let next : number - 1 + 1 ≡ number = omega (arith, some) in
    drop_more lanes (number - 1) lane (omega (arith, some, within))
    ∙ ap (λ (l : LaneValue). l ∷ drop (number - 1 + 1) lanes) (sym is)
    ∙ ap (λ (n : ℕ). lane ∷ drop n lanes) next

-- its steps are among all
pub steps_before : (lanes : List LaneValue) (number : ℕ) (lane : LaneValue) → 0 < number → number ≤ length lanes → lane ≡ get_or lanes (number - 1) lane → left_of lane + total (lefts (drop number lanes)) ≤ steps_left lanes
steps_before lanes number lane some within is =
    omega (arith, total_behind (number - 1) lanes, steps_total lanes, ap (λ (l : List LaneValue). total (lefts l)) (one_before lanes number lane some within is))

-- those of one more
pub free_by : (lane : LaneValue) (rest : List LaneValue) (steps orders first all : ℕ) → steps ≡ total (lefts rest) → orders ≡ min (free_orders (lefts rest)) (2 ^ 64 - 1) → first ≡ min (ways (left_of lane) steps) (2 ^ 64 - 1) → all ≡ min (first * orders) (2 ^ 64 - 1) → all ≡ min (free_orders (lefts (lane ∷ rest))) (2 ^ 64 - 1)
free_by lane rest steps orders first all steps_is orders_is first_is all_is =
    all_is
    ∙ ap (λ (n : ℕ). min (n * orders) (2 ^ 64 - 1)) first_is
    ∙ ap (λ (n : ℕ). min (min (ways (left_of lane) n) (2 ^ 64 - 1) * orders) (2 ^ 64 - 1)) steps_is
    ∙ ap (λ (n : ℕ). min (min (ways (left_of lane) (total (lefts rest))) (2 ^ 64 - 1) * n) (2 ^ 64 - 1)) orders_is
    ∙ product_stops (ways (left_of lane) (total (lefts rest))) (free_orders (lefts rest)) (2 ^ 64 - 1) (ways_some (left_of lane) (total (lefts rest))) (free_some (lefts rest)) (omega arith)
    ∙ ap (λ (n : ℕ). min n (2 ^ 64 - 1)) (sym (free_more (left_of lane) (lefts rest)))
