-- All orders, one after another, by the choices that each makes.
use Rattle.std.specs.Prelude.{ℕ, ◌+◌, ◌-◌, nat_lt, List, [], ◌∷◌, ◌++◌, length, slice_get, Option, Some, None, if◌then◌else◌}
use Rattle.std.specs.Option.{option_map, option_or}
use Rattle.strm_script_orders.specs.declared.listed.Choice.{Choice}

-- the choices that are kept, how many of them this play has made, and how many may be kept
pub record ListedValue : Type 0 where
  pub choices : List Choice
  pub made : ℕ
  pub steps : ℕ

-- ---- a play

-- the first of this many
abbrev pub first_of : ℕ → Choice
first_of many = record { one = 0; many = many }

-- the choice that is kept, if the one may go; else the first
abbrev pub kept_or_first : Option Choice → ℕ → ℕ
kept_or_first None many = 0
kept_or_first (Some choice) many = if nat_lt choice.one many then choice.one else 0

-- the one that goes next, of this many
abbrev pub chosen : ListedValue → ℕ → ℕ
chosen order many = kept_or_first (slice_get order.choices order.made) many

-- a choice is made, and kept if it is beyond those that are
abbrev pub with_choice : ListedValue → ℕ → ListedValue
with_choice order many =
    if nat_lt order.made (length order.choices) then record order { made = order.made + 1 }
    else
    (if nat_lt (length order.choices) order.steps then record order { choices = order.choices ++ first_of many ∷ []; made = order.made + 1 }
    else order)

-- ---- the next order

-- the next choice of as many, if there is one
abbrev pub next_choice : Choice → Option Choice
next_choice choice =
    if nat_lt 1 (choice.many - choice.one) then Some (record choice { one = choice.one + 1 }) else None

-- the next choices in lexicographic order: the last choice that has a next one is followed by that, and those
-- behind it are dropped
abbrev pub successor : List Choice → Option (List Choice)
successor [] = None
successor (choice ∷ choices) =
    option_or (option_map (λ later. choice ∷ later) (successor choices)) (option_map (λ next. next ∷ []) (next_choice choice))
