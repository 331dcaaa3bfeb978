-- A play that walks to its end.
use Rattle.std.proofs.Common.{◌≡◌, ℕ, zero, suc, ◌+◌, ◌<◌, ◌≤◌, nat_lt, Bool, true, false, cond, List, [], ◌∷◌, ◌++◌, length, take, get_or, slice_get, Option, Some, None, OnSome, is_some, unwrap_or, refl, sym, ap, subst, ◌∙◌, arith, length-append}
use Rattle.std.proofs.lemmas.Bool.{ltb-true, ltb-false}
use Rattle.std.proofs.lemmas.Bool.Decides.{nat_tests}
use Rattle.std.proofs.lemmas.List.{take_all}
use Rattle.std.proofs.lemmas.Option.{slice_get-get_or}
use Rattle.strm_script_orders.specs.declared.listed.Choice.{Choice}
use Rattle.strm_script_orders.specs.Choices.{ListedValue, chosen, first_of, kept_or_first, successor, with_choice}
use Rattle.strm_script_orders.specs.Counting.{HasPlayed, IsPath, IsPlaying, after, orders_from, orders_left, walked}
use Rattle.strm_script_orders.specs.Lanes.{LaneValue, goers, stepped_by, steps_left}
use Rattle.strm_script_orders.proofs.WalkLemmas.{from_last, from_whole, path_at, path_last, path_next, walked_last, walked_more}

is_below : (a b : ℕ) → a < b → nat_lt a b ≡ true
is_below a b below = grind (arith, nat_tests)

none_past : (choices : List Choice) (k : ℕ) → length choices ≤ k → slice_get choices k ≡ None
none_past [] k past = refl
none_past (choice ∷ choices) zero past = absurd (omega (arith, past))
none_past (choice ∷ choices) (suc k) past = none_past choices k (omega (arith, past))

-- one that may go is there, so its step is taken
pub goes : {P : Type 0} (all : List ℕ) (k : ℕ) (found : Option ℕ) → found ≡ slice_get all k → k < length all → OnSome found P → P
goes [] k found is within fact = absurd (omega (arith, within))
goes (number ∷ all) k None is within fact = absurd (gone (number ∷ all) k within is)
  where
    gone : (all : List ℕ) (k : ℕ) → k < length all → None ≡ slice_get all k → ⊥
    gone [] k within is = absurd (omega (arith, within))
    gone (number ∷ all) zero within is = cc
    gone (number ∷ all) (suc k) within is = gone all k (omega (arith, within)) is
goes (number ∷ all) k (Some other) is within fact = fact

-- a play at the next choice
pub record GoesOn (start next : List LaneValue) (before later : ListedValue) : Type 0 where
  pub playing : IsPlaying start next later.choices later.made later.steps
  pub begun : orders_from (steps_left start) later.choices start ≡ orders_from (steps_left start) before.choices start
  pub steps : later.steps ≡ before.steps

module _ (start lanes next : List LaneValue) (order : ListedValue) (many : ℕ) (playing : IsPlaying start lanes order.choices order.made order.steps) (is : many ≡ length (goers lanes)) (some : 0 < many) (step : next ≡ stepped_by (slice_get (goers lanes) (chosen order many)) lanes) (fewer : steps_left next + 1 ≡ steps_left lanes) where
  -- the choice is kept
  module _ (within : order.made < length order.choices) where
    choice : Choice
    choice = get_or order.choices order.made (first_of many)

    at : (choice.many ≡ length (goers (walked (take order.made order.choices) start))) × (choice.one < choice.many)
    unfolding choice
    at = path_at order.choices order.made (first_of many) start playing.path within

    as_many : choice.many ≡ many
    as_many = at.0 ∙ ap (λ (l : List LaneValue). length (goers l)) (sym playing.here) ∙ sym is

    its_choice : chosen order many ≡ choice.one
    unfolding choice
    its_choice =
        ap (λ (kept : Option Choice). kept_or_first kept many) (slice_get-get_or order.choices order.made (first_of many) within)
        ∙ ap (λ (b : Bool). cond b choice.one 0) (is_below choice.one many (subst (λ (n : ℕ). choice.one < n) as_many at.1))

    next_here : next ≡ walked (take (order.made + 1) order.choices) start
    unfolding choice
    next_here =
        step ∙ ap (λ (k : ℕ). stepped_by (slice_get (goers lanes) k) lanes) its_choice
        ∙ ap (after choice) playing.here
        ∙ sym (walked_more order.choices order.made (first_of many) start within)

    pub goes_kept : GoesOn start next order (record order { made = order.made + 1 })
    goes_kept = record {
      playing = record {
        path = playing.path;
        made_within = omega (arith, within);
        here = next_here;
        left = omega (arith, playing.left, fewer);
        room = playing.room;
      };
      begun = refl;
      steps = refl;
    }

  -- the first one goes
  module _ (past : length order.choices ≤ order.made) where
    all_made : order.made ≡ length order.choices
    all_made = omega (arith, past, playing.made_within)

    whole_here : lanes ≡ walked order.choices start
    whole_here = playing.here ∙ ap (λ (choices : List Choice). walked choices start) (take_all order.made order.choices past)

    as_many_here : many ≡ length (goers (walked order.choices start))
    as_many_here = is ∙ ap (λ (l : List LaneValue). length (goers l)) whole_here

    first_choice : chosen order many ≡ 0
    first_choice = ap (λ (kept : Option Choice). kept_or_first kept many) (none_past order.choices order.made past)

    longer : List Choice
    longer = order.choices ++ first_of many ∷ []

    long : length longer ≡ length order.choices + 1
    unfolding longer
    long = length-append order.choices (first_of many ∷ [])

    goes_first : GoesOn start next order (record order { choices = longer; made = order.made + 1 })
    unfolding longer
    goes_first = record {
      playing = record {
        path = path_last order.choices many start playing.path as_many_here some;
        made_within = omega (arith, long, all_made);
        here =
            step ∙ ap (λ (k : ℕ). stepped_by (slice_get (goers lanes) k) lanes) first_choice
            ∙ ap (after (first_of many)) whole_here
            ∙ sym (walked_last order.choices (first_of many) start)
            ∙ ap (λ (choices : List Choice). walked choices start) (sym (take_all (order.made + 1) longer (omega (arith, long, all_made))));
        left = omega (arith, playing.left, fewer);
        room = playing.room;
      };
      begun = from_last (steps_left start) order.choices many start playing.path as_many_here some (omega (arith, playing.left, fewer, all_made));
      steps = refl;
    }

    has_room : nat_lt (length order.choices) order.steps ≡ true
    has_room = is_below (length order.choices) order.steps (omega (arith, playing.left, fewer, all_made, playing.room))

  pub goes_on : GoesOn start next order (with_choice order many)
  unfolding longer
  goes_on = by (nat_lt order.made (length order.choices)) refl
    where
      by : (b : Bool) → nat_lt order.made (length order.choices) ≡ b → GoesOn start next order (cond b (record order { made = order.made + 1 }) (cond (nat_lt (length order.choices) order.steps) (record order { choices = order.choices ++ first_of many ∷ []; made = order.made + 1 }) order))
      by true within = goes_kept (ltb-true order.made (length order.choices) within)
      by false past =
          let all = ltb-false order.made (length order.choices) past in
          subst (λ (b : Bool). GoesOn start next order (cond b (record order { choices = order.choices ++ first_of many ∷ []; made = order.made + 1 }) order)) (sym (has_room all)) (goes_first all)

-- nobody may go, so all choices are made
pub has_played : (start lanes : List LaneValue) (order : ListedValue) (many : ℕ) → IsPlaying start lanes order.choices order.made order.steps → many ≡ length (goers lanes) → many ≡ 0 → HasPlayed start order.choices
has_played start lanes order many playing is none = by (nat_lt order.made (length order.choices)) refl
  where
    empty : (all : List ℕ) → 0 ≡ length all → all ≡ []
    empty [] none = refl
    empty (number ∷ all) none = absurd (omega (arith, none))

    by : (b : Bool) → nat_lt order.made (length order.choices) ≡ b → HasPlayed start order.choices
    by true more =
        let within = ltb-true order.made (length order.choices) more in
        let at = path_at order.choices order.made (first_of many) start playing.path within in
        absurd (omega (arith, at.1, at.0 ∙ ap (λ (l : List LaneValue). length (goers l)) (sym playing.here) ∙ sym is ∙ none))
    by false past =
        let all = ltb-false order.made (length order.choices) past in
        let whole = playing.here ∙ ap (λ (choices : List Choice). walked choices start) (take_all order.made order.choices all) in
        record {
          path = playing.path;
          ended = ap goers (sym whole) ∙ empty (goers lanes) (sym none ∙ is);
          short = omega (arith, playing.left, all);
        }

-- a play more is counted, and as many orders are left as from the next choices on
pub counted_more : (start lanes : List LaneValue) (before choices : List Choice) (count total : ℕ) → lanes ≡ start → HasPlayed lanes choices → orders_from (steps_left lanes) choices lanes ≡ orders_from (steps_left lanes) before lanes → count + orders_from (steps_left start) before start ≡ total → count + 1 + orders_left (steps_left start) (successor choices) start ≡ total
counted_more start lanes before choices count total at_start played begun so_far =
    let here = subst (λ (l : List LaneValue). HasPlayed l choices) at_start played in
    let left = subst (λ (l : List LaneValue). orders_from (steps_left l) choices l ≡ orders_from (steps_left l) before l) at_start begun in
    let whole = from_whole (steps_left start) choices start here.path here.ended here.short in
    omega (arith, left, whole, so_far)

-- the next choices are a path
pub path_after : (start lanes : List LaneValue) (choices later : List Choice) → lanes ≡ start → HasPlayed lanes choices → successor choices ≡ Some later → IsPath later start
path_after start lanes choices later at_start played is =
    path_next choices later start (subst (λ (l : List LaneValue). HasPlayed l choices) at_start played).path is

-- there are next choices
pub advanced : (later : Option (List Choice)) (choices : List Choice) (is : Bool) → is ≡ is_some later → is ≡ true → choices ≡ unwrap_or later [] → later ≡ Some choices
advanced None choices is some goes same = absurd (false_true (sym some ∙ goes))
  where
    false_true : false ≡ true → ⊥
    false_true same = cc
advanced (Some later) choices is some goes same = ap Some (sym same)

-- there are none
pub at_last : (later : Option (List Choice)) (is : Bool) → is ≡ is_some later → is ≡ false → later ≡ None
at_last None is some none = refl
at_last (Some later) is some none = absurd (true_false (sym some ∙ none))
  where
    true_false : true ≡ false → ⊥
    true_false same = cc
