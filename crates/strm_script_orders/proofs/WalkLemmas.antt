-- Walks through all orders.
use Rattle.std.proofs.Common.{◌≡◌, ℕ, zero, suc, ◌+◌, ◌-◌, ◌<◌, ◌≤◌, nat_eq, nat_lt, Bool, true, false, cond, List, [], ◌∷◌, ◌++◌, length, take, drop, get_or, slice_get, Option, Some, None, refl, sym, ap, subst, ◌∙◌, add_assoc, arith}
use Rattle.std.specs.Option.{option_map, option_or}
use Rattle.std.proofs.lemmas.Bool.{ltb-true, ltb-false}
use Rattle.std.proofs.lemmas.Bool.Decides.{nat_tests}
use Rattle.std.proofs.lemmas.List.{drop_all, take_more}
use Rattle.strm_script_orders.specs.declared.listed.Choice.{Choice}
use Rattle.strm_script_orders.specs.Choices.{first_of, next_choice, successor}
use Rattle.strm_script_orders.specs.Counting.{IsPath, after, orders_behind, orders_from, orders_left, orders_within, sum_over, walked}
use Rattle.strm_script_orders.specs.Lanes.{LaneValue, goers, stepped, stepped_by}

-- ---- one choice more

pub walked_last : (choices : List Choice) (last : Choice) (lanes : List LaneValue) → walked (choices ++ last ∷ []) lanes ≡ after last (walked choices lanes)
walked_last [] last lanes = refl
walked_last (choice ∷ choices) last lanes = walked_last choices last (after choice lanes)

pub walked_more : (choices : List Choice) (made : ℕ) (d : Choice) (lanes : List LaneValue) → made < length choices → walked (take (made + 1) choices) lanes ≡ after (get_or choices made d) (walked (take made choices) lanes)
walked_more choices made d lanes within =
    ap (λ (cs : List Choice). walked cs lanes) (take_more choices made d within) ∙ walked_last (take made choices) (get_or choices made d) lanes

-- a choice of a path is one of as many as may go
pub path_at : (choices : List Choice) (made : ℕ) (d : Choice) (lanes : List LaneValue) → IsPath choices lanes → made < length choices → ((get_or choices made d).many ≡ length (goers (walked (take made choices) lanes))) × ((get_or choices made d).one < (get_or choices made d).many)
path_at [] made d lanes path within = absurd (omega (arith, within))
path_at (choice ∷ choices) zero d lanes path within = (path.0, path.1)
path_at (choice ∷ choices) (suc made) d lanes path within = path_at choices made d (after choice lanes) path.2 (omega (arith, within))

-- the first one that may go makes a path longer
pub path_last : (choices : List Choice) (many : ℕ) (lanes : List LaneValue) → IsPath choices lanes → many ≡ length (goers (walked choices lanes)) → 0 < many → IsPath (choices ++ first_of many ∷ []) lanes
path_last [] many lanes path is some = (is, some, tt)
path_last (choice ∷ choices) many lanes path is some = (path.0, path.1, path_last choices many (after choice lanes) path.2 is some)

module _ (steps : ℕ) (lanes : List LaneValue) where
  abbrev orders_by : ℕ → ℕ
  orders_by number = orders_within steps (stepped number lanes)

  -- those that begin with the first one, and the others
  with_first : (all : List ℕ) → 0 < length all → orders_within steps (stepped_by (slice_get all 0) lanes) + sum_over orders_by (drop 1 all) ≡ cond (nat_eq (length all) 0) 1 (sum_over orders_by all)
  with_first [] some = absurd (omega (arith, some))
  with_first (number ∷ all) some = ap (λ (b : Bool). cond b 1 (orders_by number + sum_over orders_by all)) (sym (not_none (length all)))
    where
      not_none : (n : ℕ) → nat_eq (suc n) 0 ≡ false
      not_none n = grind (arith, nat_tests)

  -- those that begin with one, and those behind it
  with_next : (all : List ℕ) (k : ℕ) → k < length all → sum_over orders_by (drop k all) ≡ orders_within steps (stepped_by (slice_get all k) lanes) + sum_over orders_by (drop (k + 1) all)
  with_next [] k within = absurd (omega (arith, within))
  with_next (number ∷ all) zero within = refl
  with_next (number ∷ all) (suc k) within =
      let next : suc k + 1 ≡ suc (k + 1) = omega arith in
      with_next all k (omega (arith, within)) ∙ ap (λ (n : ℕ). orders_within steps (stepped_by (slice_get all k) lanes) + sum_over orders_by (drop n (number ∷ all))) (sym next)

-- the first one that may go leaves as many orders
pub from_last : (steps : ℕ) (choices : List Choice) (many : ℕ) (lanes : List LaneValue) → IsPath choices lanes → many ≡ length (goers (walked choices lanes)) → 0 < many → length choices < steps → orders_from steps (choices ++ first_of many ∷ []) lanes ≡ orders_from steps choices lanes
from_last zero choices many lanes path is some short = absurd (omega (arith, short))
from_last (suc steps) [] many lanes path is some short = with_first steps lanes (goers lanes) (omega (arith, is, some))
from_last (suc steps) (choice ∷ choices) many lanes path is some short =
    ap (λ (n : ℕ). n + orders_behind steps choice lanes) (from_last steps choices many (after choice lanes) path.2 is some (omega (arith, short)))

-- ---- the next choices

-- the orders behind a choice begin with the next one
behind_next : (steps : ℕ) (choice : Choice) (lanes : List LaneValue) → choice.many ≡ length (goers lanes) → choice.one < choice.many → orders_behind steps choice lanes ≡ orders_left (suc steps) (option_map (λ next. next ∷ []) (next_choice choice)) lanes
behind_next steps choice lanes is within = by (nat_lt 1 (choice.many - choice.one)) refl
  where
    next : Choice
    next = record { one = choice.one + 1; many = choice.many }

    by : (b : Bool) → nat_lt 1 (choice.many - choice.one) ≡ b → orders_behind steps choice lanes ≡ orders_left (suc steps) (option_map (λ c. c ∷ []) (cond b (Some next) None)) lanes
    by true more = let two : 1 < choice.many - choice.one = ltb-true 1 (choice.many - choice.one) more in with_next steps lanes (goers lanes) (choice.one + 1) (omega (arith, two, is))
    by false last =
        let one : choice.many - choice.one ≤ 1 = ltb-false 1 (choice.many - choice.one) last in
        ap (sum_over (λ number. orders_within steps (stepped number lanes))) (drop_all (choice.one + 1) (goers lanes) (omega (arith, one, is)))

-- from a whole order on there is one order more than from the next one on
pub from_whole : (steps : ℕ) (choices : List Choice) (lanes : List LaneValue) → IsPath choices lanes → goers (walked choices lanes) ≡ [] → length choices ≤ steps → orders_from steps choices lanes ≡ 1 + orders_left steps (successor choices) lanes
from_whole zero [] lanes path ended short = refl
from_whole (suc steps) [] lanes path ended short = ap (λ (all : List ℕ). cond (nat_eq (length all) 0) 1 (sum_over (λ number. orders_within steps (stepped number lanes)) all)) ended
from_whole zero (choice ∷ choices) lanes path ended short = absurd (omega (arith, short))
from_whole (suc steps) (choice ∷ choices) lanes path ended short = by (successor choices) (from_whole steps choices (after choice lanes) path.2 ended (omega (arith, short)))
  where
    behind : ℕ
    behind = orders_behind steps choice lanes

    by : (later : Option (List Choice)) → orders_from steps choices (after choice lanes) ≡ 1 + orders_left steps later (after choice lanes) → orders_from steps choices (after choice lanes) + behind ≡ 1 + orders_left (suc steps) (option_or (option_map (λ l. choice ∷ l) later) (option_map (λ next. next ∷ []) (next_choice choice))) lanes
    by None is = ap (λ (n : ℕ). n + behind) is ∙ ap (λ (n : ℕ). 1 + n) (behind_next steps choice lanes path.0 path.1)
    by (Some later) is = ap (λ (n : ℕ). n + behind) is ∙ add_assoc 1 (orders_from steps later (after choice lanes)) behind

-- the next choices are a path
pub path_next : (choices later : List Choice) (lanes : List LaneValue) → IsPath choices lanes → successor choices ≡ Some later → IsPath later lanes
path_next [] later lanes path is = absurd cc
path_next (choice ∷ choices) later lanes path is = by (successor choices) is (λ l same. path_next choices l (after choice lanes) path.2 same) refl
  where
    ends : (b : Bool) → nat_lt 1 (choice.many - choice.one) ≡ b → option_map (λ (next : Choice). next ∷ []) (cond b (Some (record choice { one = choice.one + 1 })) None) ≡ Some later → IsPath later lanes
    ends true more same =
        let two : 1 < choice.many - choice.one = ltb-true 1 (choice.many - choice.one) more in
        subst (λ (l : List Choice). IsPath l lanes) (one_of same) (path.0, omega (arith, two), tt)
      where
        one_of : Some (record choice { one = choice.one + 1 } ∷ []) ≡ Some later → record choice { one = choice.one + 1 } ∷ [] ≡ later
        one_of same = cc
    ends false last same = absurd cc

    by : (s : Option (List Choice)) → option_or (option_map (λ l. choice ∷ l) s) (option_map (λ next. next ∷ []) (next_choice choice)) ≡ Some later → ((l : List Choice) → successor choices ≡ Some l → IsPath l (after choice lanes)) → successor choices ≡ s → IsPath later lanes
    by None same deeper at = ends (nat_lt 1 (choice.many - choice.one)) refl same
    by (Some l) same deeper at = subst (λ (l : List Choice). IsPath l lanes) (cons_of same) (path.0, path.1, deeper l at)
      where
        cons_of : Some (choice ∷ l) ≡ Some later → choice ∷ l ≡ later
        cons_of same = cc
