-- How many orders there are.
use Rattle.std.specs.Prelude.{◌≡◌, ℕ, zero, suc, ◌+◌, ◌<◌, ◌≤◌, nat_eq, List, [], ◌∷◌, length, drop, take, slice_get, Option, Some, None, if◌then◌else◌}
use Rattle.strm_script_orders.specs.declared.listed.Choice.{Choice}
use Rattle.strm_script_orders.specs.Lanes.{LaneValue, goers, stepped, stepped_by, steps_left}

-- the sum of f over a list
abbrev pub sum_over : (ℕ → ℕ) → List ℕ → ℕ
sum_over f [] = 0
sum_over f (x ∷ xs) = f x + sum_over f xs

-- the orders of at most so many steps: for each that may go first, those of the steps behind it
abbrev pub orders_within : ℕ → List LaneValue → ℕ
orders_within zero lanes = 1
orders_within (suc steps) lanes =
    if nat_eq (length (goers lanes)) 0 then 1 else sum_over (λ number. orders_within steps (stepped number lanes)) (goers lanes)

-- the orders of all steps that are left
unfoldable pub orders_of : List LaneValue → ℕ
orders_of lanes = orders_within (steps_left lanes) lanes

-- ---- walking through them (no public clause cites this)

-- a choice is made
abbrev pub after : Choice → List LaneValue → List LaneValue
after choice lanes = stepped_by (slice_get (goers lanes) choice.one) lanes

abbrev pub walked : List Choice → List LaneValue → List LaneValue
walked [] lanes = lanes
walked (choice ∷ choices) lanes = walked choices (after choice lanes)

-- each choice is one of as many as may go
abbrev pub IsPath : List Choice → List LaneValue → Type 0
IsPath [] lanes = Unit {0}
IsPath (choice ∷ choices) lanes = (choice.many ≡ length (goers lanes)) × (choice.one < choice.many) × IsPath choices (after choice lanes)

-- the orders behind those that begin with a choice, of so many steps behind it
abbrev pub orders_behind : ℕ → Choice → List LaneValue → ℕ
orders_behind steps choice lanes = sum_over (λ number. orders_within steps (stepped number lanes)) (drop (choice.one + 1) (goers lanes))

-- the orders from these choices on, in lexicographic order
abbrev pub orders_from : ℕ → List Choice → List LaneValue → ℕ
orders_from steps [] lanes = orders_within steps lanes
orders_from zero (choice ∷ choices) lanes = 0
orders_from (suc steps) (choice ∷ choices) lanes = orders_from steps choices (after choice lanes) + orders_behind steps choice lanes

-- the orders from the next choices on
abbrev pub orders_left : ℕ → Option (List Choice) → List LaneValue → ℕ
orders_left steps None lanes = 0
orders_left steps (Some choices) lanes = orders_from steps choices lanes

-- a play has made the first of its choices, and the others are kept
pub record IsPlaying (start lanes : List LaneValue) (choices : List Choice) (made steps : ℕ) : Type 0 where
  pub path : IsPath choices start
  pub made_within : made ≤ length choices
  pub here : lanes ≡ walked (take made choices) start
  pub left : made + steps_left lanes ≡ steps_left start
  pub room : steps_left start ≤ steps

-- a play is at its end
pub record HasPlayed (start : List LaneValue) (choices : List Choice) : Type 0 where
  pub path : IsPath choices start
  pub ended : goers (walked choices start) ≡ []
  pub short : length choices ≤ steps_left start
