-- The orders of those who await nobody, by who goes first.
use Rattle.std.proofs.Common.{◌≡◌, ℕ, zero, suc, ◌+◌, ◌*◌, ◌<◌, ◌&&◌, nat_eq, not, Bool, true, false, cond, List, [], ◌∷◌, ◌++◌, length, map, refl, sym, ap, subst, ◌∙◌, append_assoc, length-append, add-zero, arith}
use Rattle.std.proofs.lemmas.Bool.{ltb-true, ltb-false}
use Rattle.std.proofs.lemmas.Bool.Decides.{nat_tests}
use Rattle.std.specs.List.{list_any}
use Rattle.strm_run_input.specs.declared.script.Await.{Await}
use Rattle.strm_script_orders.specs.Counting.{orders_of, orders_within, sum_over}
use Rattle.strm_script_orders.specs.Free.{free_orders, is_free, lefts, total, ways}
use Rattle.strm_script_orders.specs.Lanes.{LaneValue, goers, goers_from, has_left, is_fed, left_of, may_go, stepped, steps_left, with_step}
use Rattle.strm_script_orders.proofs.FreeLemmas.{free_more, free_none, free_some, steps_total}
use Rattle.strm_script_orders.proofs.WaysLemmas.{ways_first, ways_more, ways_none}

-- ---- who may go next

-- the lanes behind each step that may be next
abbrev nexts : List LaneValue → List (List LaneValue)
nexts [] = []
nexts (lane ∷ rest) =
    cond (has_left lane) ((with_step lane ∷ rest) ∷ map (λ lanes. lane ∷ lanes) (nexts rest)) (map (λ lanes. lane ∷ lanes) (nexts rest))

and_parts : (a b : Bool) → (a && b) ≡ true → (a ≡ true) × (b ≡ true)
and_parts true b is = (refl, is)
and_parts false b is = absurd cc

and_true : (a : Bool) → (a && true) ≡ a
and_true true = refl
and_true false = refl

no_awaits : (awaits : List Await) → nat_eq (length awaits) 0 ≡ true → awaits ≡ []
no_awaits [] is = refl
no_awaits (await ∷ awaits) is = absurd (not_none (length awaits) is)
  where
    not_none : (n : ℕ) → nat_eq (suc n) 0 ≡ true → ⊥
    not_none n is = grind (arith, nat_tests)

-- one who awaits nobody may go while a step is left
may_go_free : (lanes : List LaneValue) (lane : LaneValue) → nat_eq (length lane.awaits) 0 ≡ true → may_go lanes lane ≡ has_left lane
may_go_free lanes lane is =
    ap (λ (awaits : List Await). has_left lane && not (list_any (λ await. nat_eq await.call lane.taken && is_fed lanes await.stream) awaits)) (no_awaits lane.awaits is)
    ∙ and_true (has_left lane)

step_behind : (front rest : List LaneValue) (lane : LaneValue) → stepped (length front) (front ++ lane ∷ rest) ≡ front ++ with_step lane ∷ rest
step_behind [] rest lane = refl
step_behind (other ∷ front) rest lane = ap (λ (l : List LaneValue). other ∷ l) (step_behind front rest lane)

map_behind : (front : List LaneValue) (lane : LaneValue) (all : List (List LaneValue)) → map (λ l. (front ++ lane ∷ []) ++ l) all ≡ map (λ l. front ++ l) (map (λ l. lane ∷ l) all)
map_behind front lane [] = refl
map_behind front lane (one ∷ all) =
    ap (λ (l : List LaneValue). l ∷ map (λ k. (front ++ lane ∷ []) ++ k) all) (append_assoc front (lane ∷ []) one)
    ∙ ap (λ (l : List (List LaneValue)). (front ++ lane ∷ one) ∷ l) (map_behind front lane all)

-- those who may go, of these behind others, take their steps
goers_next : (lanes front rest : List LaneValue) → is_free rest ≡ true → map (λ k. stepped k (front ++ rest)) (goers_from lanes (length front) rest) ≡ map (λ l. front ++ l) (nexts rest)
goers_next lanes front [] free = refl
goers_next lanes front (lane ∷ rest) free =
    let parts = and_parts (nat_eq (length lane.awaits) 0) (is_free rest) free in
    ap (λ (b : Bool). map (λ k. stepped k (front ++ lane ∷ rest)) (cond b (length front ∷ goers_from lanes (length front + 1) rest) (goers_from lanes (length front + 1) rest))) (may_go_free lanes lane parts.0)
    ∙ by (has_left lane) (behind (goers_next lanes (front ++ lane ∷ []) rest parts.1))
  where
    behind : map (λ k. stepped k ((front ++ lane ∷ []) ++ rest)) (goers_from lanes (length (front ++ lane ∷ [])) rest) ≡ map (λ l. (front ++ lane ∷ []) ++ l) (nexts rest) → map (λ k. stepped k (front ++ lane ∷ rest)) (goers_from lanes (length front + 1) rest) ≡ map (λ l. front ++ l) (map (λ l. lane ∷ l) (nexts rest))
    behind is =
        ap (λ (n : ℕ). map (λ k. stepped k (front ++ lane ∷ rest)) (goers_from lanes n rest)) (sym (length-append front (lane ∷ [])))
        ∙ ap (λ (l : List LaneValue). map (λ k. stepped k l) (goers_from lanes (length (front ++ lane ∷ [])) rest)) (sym (append_assoc front (lane ∷ []) rest))
        ∙ is ∙ map_behind front lane (nexts rest)

    by : (b : Bool) → map (λ k. stepped k (front ++ lane ∷ rest)) (goers_from lanes (length front + 1) rest) ≡ map (λ l. front ++ l) (map (λ l. lane ∷ l) (nexts rest)) → map (λ k. stepped k (front ++ lane ∷ rest)) (cond b (length front ∷ goers_from lanes (length front + 1) rest) (goers_from lanes (length front + 1) rest)) ≡ map (λ l. front ++ l) (cond b ((with_step lane ∷ rest) ∷ map (λ l. lane ∷ l) (nexts rest)) (map (λ l. lane ∷ l) (nexts rest)))
    by true is =
        ap (λ (l : List LaneValue). l ∷ map (λ k. stepped k (front ++ lane ∷ rest)) (goers_from lanes (length front + 1) rest)) (step_behind front rest lane)
        ∙ ap (λ (l : List (List LaneValue)). (front ++ with_step lane ∷ rest) ∷ l) is
    by false is = is

-- ---- sums over them

abbrev sum_all : (List LaneValue → ℕ) → List (List LaneValue) → ℕ
sum_all f [] = 0
sum_all f (lanes ∷ all) = f lanes + sum_all f all

sum_mapped : (f : List LaneValue → ℕ) (lanes : List LaneValue) (numbers : List ℕ) → sum_over (λ k. f (stepped k lanes)) numbers ≡ sum_all f (map (λ k. stepped k lanes) numbers)
sum_mapped f lanes [] = refl
sum_mapped f lanes (k ∷ numbers) = ap (λ (n : ℕ). f (stepped k lanes) + n) (sum_mapped f lanes numbers)

sum_same : (f : List LaneValue → ℕ) (all : List (List LaneValue)) → sum_all f (map (λ l. [] ++ l) all) ≡ sum_all f all
sum_same f [] = refl
sum_same f (lanes ∷ all) = ap (λ (n : ℕ). f lanes + n) (sum_same f all)

sum_goers : (f : List LaneValue → ℕ) (lanes : List LaneValue) → is_free lanes ≡ true → sum_over (λ k. f (stepped k lanes)) (goers lanes) ≡ sum_all f (nexts lanes)
unfolding goers
sum_goers f lanes free =
    sum_mapped f lanes (goers_from lanes 0 lanes) ∙ ap (sum_all f) (goers_next lanes [] lanes free) ∙ sum_same f (nexts lanes)

-- ---- each of them has one step fewer

abbrev EachNext : ℕ → List (List LaneValue) → Type 0
EachNext steps [] = Unit {0}
EachNext steps (lanes ∷ all) = ((total (lefts lanes) + 1 ≡ steps) × (is_free lanes ≡ true)) × EachNext steps all

each_behind : (lane : LaneValue) (steps : ℕ) (all : List (List LaneValue)) → nat_eq (length lane.awaits) 0 ≡ true → EachNext steps all → EachNext (left_of lane + steps) (map (λ l. lane ∷ l) all)
each_behind lane steps [] free each = tt
each_behind lane steps (lanes ∷ all) free each =
    ((omega (arith, each.0.0), ap (λ (b : Bool). b && is_free lanes) free ∙ each.0.1), each_behind lane steps all free each.1)

each_next : (lanes : List LaneValue) → is_free lanes ≡ true → EachNext (total (lefts lanes)) (nexts lanes)
each_next [] free = tt
each_next (lane ∷ rest) free =
    let parts = and_parts (nat_eq (length lane.awaits) 0) (is_free rest) free in
    by (has_left lane) refl (each_behind lane (total (lefts rest)) (nexts rest) parts.0 (each_next rest parts.1))
  where
    by : (b : Bool) → has_left lane ≡ b → EachNext (left_of lane + total (lefts rest)) (map (λ l. lane ∷ l) (nexts rest)) → EachNext (left_of lane + total (lefts rest)) (cond b ((with_step lane ∷ rest) ∷ map (λ l. lane ∷ l) (nexts rest)) (map (λ l. lane ∷ l) (nexts rest)))
    by true is each = let more = ltb-true lane.taken lane.steps is in ((omega (arith, more), free), each)
    by false is each = each

none_next : (all : List (List LaneValue)) → EachNext 0 all → all ≡ []
none_next [] each = refl
none_next (lanes ∷ all) each = absurd (omega (arith, each.0.0))

-- ---- the product

abbrev product : List LaneValue → ℕ
product lanes = free_orders (lefts lanes)

-- a lane before each of them
sum_behind : (lane : LaneValue) (steps : ℕ) (all : List (List LaneValue)) → EachNext (suc steps) all → sum_all product (map (λ l. lane ∷ l) all) ≡ ways (left_of lane) steps * sum_all product all
sum_behind lane steps [] each = omega arith
sum_behind lane steps (lanes ∷ all) each =
    let same : total (lefts lanes) ≡ steps = omega (arith, each.0.0) in
    let one = free_more (left_of lane) (lefts lanes) ∙ ap (λ (n : ℕ). ways (left_of lane) n * product lanes) same in
    let others = sum_behind lane steps all each.1 in
    joined (ways (left_of lane) steps) (product lanes) (sum_all product all) (product (lane ∷ lanes)) (sum_all product (map (λ l. lane ∷ l) all)) one others
  where
    joined : (w x y a b : ℕ) → a ≡ w * x → b ≡ w * y → a + b ≡ w * (x + y)
    joined w x y a b one others = omega (arith, one, others)

-- who goes first makes all orders
sum_first : (lanes : List LaneValue) → is_free lanes ≡ true → 0 < total (lefts lanes) → sum_all product (nexts lanes) ≡ product lanes
sum_first [] free some = absurd (omega (arith, some))
sum_first (lane ∷ rest) free some =
    let parts = and_parts (nat_eq (length lane.awaits) 0) (is_free rest) free in
    by (has_left lane) (total (lefts rest)) refl refl (each_next rest parts.1) (λ more. sum_first rest parts.1 more)
  where
    product_is : (steps : ℕ) → total (lefts rest) ≡ steps → product (lane ∷ rest) ≡ ways (left_of lane) steps * product rest
    product_is steps is = free_more (left_of lane) (lefts rest) ∙ ap (λ (n : ℕ). ways (left_of lane) n * product rest) is

    stepped_is : (steps : ℕ) → total (lefts rest) ≡ steps → product (with_step lane ∷ rest) ≡ ways (left_of (with_step lane)) steps * product rest
    stepped_is steps is = free_more (left_of (with_step lane)) (lefts rest) ∙ ap (λ (n : ℕ). ways (left_of (with_step lane)) n * product rest) is

    -- the steps of the others come first
    others_first : (steps : ℕ) → total (lefts rest) ≡ suc steps → EachNext (total (lefts rest)) (nexts rest) → (0 < total (lefts rest) → sum_all product (nexts rest) ≡ product rest) → sum_all product (map (λ l. lane ∷ l) (nexts rest)) ≡ ways (left_of lane) steps * product rest
    others_first steps is each others =
        sum_behind lane steps (nexts rest) (subst (λ (n : ℕ). EachNext n (nexts rest)) is each)
        ∙ ap (λ (n : ℕ). ways (left_of lane) steps * n) (others (omega (arith, is)))

    joined : (w x y p a b c : ℕ) → a ≡ w * p → b ≡ x * p → c ≡ y * p → y ≡ w + x → a + b ≡ c
    joined w x y p a b c one other whole is = rw (one, other, whole, is) (omega arith)

    by : (b : Bool) (steps : ℕ) → has_left lane ≡ b → total (lefts rest) ≡ steps → EachNext (total (lefts rest)) (nexts rest) → (0 < total (lefts rest) → sum_all product (nexts rest) ≡ product rest) → sum_all product (cond b ((with_step lane ∷ rest) ∷ map (λ l. lane ∷ l) (nexts rest)) (map (λ l. lane ∷ l) (nexts rest))) ≡ product (lane ∷ rest)
    by false zero is left each others = absurd (omega (arith, some, left, ltb-false lane.taken lane.steps is))
    by false (suc steps) is left each others =
        let none : left_of lane ≡ 0 = omega (arith, ltb-false lane.taken lane.steps is) in
        others_first steps left each others
        ∙ ap (λ (n : ℕ). n * product rest) (ap (λ (n : ℕ). ways n steps) none ∙ ways_first steps ∙ sym (ap (λ (n : ℕ). ways n (suc steps)) none ∙ ways_first (suc steps)))
        ∙ sym (product_is (suc steps) left)
    by true zero is left each others =
        let gone = none_next (nexts rest) (subst (λ (n : ℕ). EachNext n (nexts rest)) left each) in
        ap (λ (all : List (List LaneValue)). product (with_step lane ∷ rest) + sum_all product (map (λ l. lane ∷ l) all)) gone
        ∙ add-zero (product (with_step lane ∷ rest))
        ∙ stepped_is zero left
        ∙ ap (λ (n : ℕ). n * product rest) (ways_none (left_of (with_step lane)) ∙ sym (ways_none (left_of lane)))
        ∙ sym (product_is zero left)
    by true (suc steps) is left each others =
        let more : left_of lane ≡ suc (left_of (with_step lane)) = omega (arith, ltb-true lane.taken lane.steps is) in
        joined (ways (left_of (with_step lane)) (suc steps)) (ways (left_of lane) steps) (ways (left_of lane) (suc steps)) (product rest) _ _ _
        (stepped_is (suc steps) left) (others_first steps left each others) (product_is (suc steps) left)
        (ap (λ (n : ℕ). ways n (suc steps)) more ∙ ways_more (left_of (with_step lane)) steps ∙ ap (λ (n : ℕ). ways (left_of (with_step lane)) (suc steps) + ways n steps) (sym more))

-- ---- all orders

none_left : (lanes : List LaneValue) → total (lefts lanes) ≡ 0 → product lanes ≡ 1
none_left [] none = free_none
none_left (lane ∷ rest) none =
    let first : left_of lane ≡ 0 = omega (arith, none) in
    let others = none_left rest (omega (arith, none)) in
    free_more (left_of lane) (lefts rest) ∙ ap (λ (n : ℕ). ways n (total (lefts rest)) * product rest) first ∙ ap (λ (n : ℕ). n * product rest) (ways_first (total (lefts rest))) ∙ ap (λ (n : ℕ). 1 * n) others

-- each of them has the orders of the product
all_within : (steps : ℕ) (all : List (List LaneValue)) → EachNext (suc steps) all → ((lanes : List LaneValue) → is_free lanes ≡ true → total (lefts lanes) ≡ steps → orders_within steps lanes ≡ product lanes) → sum_all (orders_within steps) all ≡ sum_all product all
all_within steps [] each alike = refl
all_within steps (lanes ∷ all) each alike =
    ap (λ (n : ℕ). n + sum_all (orders_within steps) all) (alike lanes each.0.1 (omega (arith, each.0.0)))
    ∙ ap (λ (n : ℕ). product lanes + n) (all_within steps all each.1 alike)

-- somebody may go, where there are orders
if_some : (numbers : List ℕ) (whole : ℕ) (f : ℕ → ℕ) → sum_over f numbers ≡ whole → 0 < whole → cond (nat_eq (length numbers) 0) 1 (sum_over f numbers) ≡ whole
if_some [] whole f is some = absurd (omega (arith, is, some))
if_some (k ∷ numbers) whole f is some = ap (λ (b : Bool). cond b 1 (sum_over f (k ∷ numbers))) (not_none (length numbers)) ∙ is
  where
    not_none : (n : ℕ) → nat_eq (suc n) 0 ≡ false
    not_none n = grind (arith, nat_tests)

within_is : (steps : ℕ) (lanes : List LaneValue) → is_free lanes ≡ true → total (lefts lanes) ≡ steps → orders_within steps lanes ≡ product lanes
within_is zero lanes free is = sym (none_left lanes is)
within_is (suc steps) lanes free is =
    if_some (goers lanes) (product lanes) (λ k. orders_within steps (stepped k lanes))
    (sum_goers (orders_within steps) lanes free
    ∙ all_within steps (nexts lanes) (subst (λ (n : ℕ). EachNext n (nexts lanes)) is (each_next lanes free)) (within_is steps)
    ∙ sum_first lanes free (omega (arith, is)))
    (free_some (lefts lanes))

-- the orders of those who await nobody
pub orders_are_free : (lanes : List LaneValue) → is_free lanes ≡ true → orders_of lanes ≡ free_orders (lefts lanes)
unfolding orders_of
orders_are_free lanes free = within_is (steps_left lanes) lanes free (sym (steps_total lanes))
