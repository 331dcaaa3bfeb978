-- The parts of a tally in the code (no public clause cites them).
use Rattle.std.specs.Prelude.{ℕ, ◌≤◌, List, All, Option, Vec}
use Rattle.std.specs.Global.{Global}
use Rattle.std.specs.Option.{option_map}
use Rattle.strm_script_orders.specs.Tally.{GivenValue, TallyValue}

-- the bytes of a label, if there is one
abbrev pub label_in : Option (Vec ℕ Global) → Option (List ℕ)
label_in label = option_map (λ bytes. bytes.items) label

-- the tally of these parts
abbrev pub tally_in : ℕ → List GivenValue → ℕ → ℕ → Option (Vec ℕ Global) → TallyValue
tally_in orders kept others unmet first = record { orders = orders; kept = kept; others = others; unmet = unmet; first_unmet = label_in first }

-- no count is above that of the orders
pub record IsWithin (orders : ℕ) (kept : List GivenValue) (others unmet : ℕ) : Type 0 where
  pub plays : All (λ given. given.plays ≤ orders) kept
  pub others_within : others ≤ orders
  pub unmet_within : unmet ≤ orders
