-- The orders of those who await nobody: each may go while it has a step left.
use Rattle.std.specs.Prelude.{ℕ, zero, suc, ◌+◌, ◌*◌, nat_eq, Bool, List, [], ◌∷◌, length, map}
use Rattle.std.specs.List.{list_all}
use Rattle.strm_script_orders.specs.Counting.{sum_over}
use Rattle.strm_script_orders.specs.Lanes.{LaneValue, left_of}

-- nobody awaits a feed
abbrev pub is_free : List LaneValue → Bool
is_free lanes = list_all (λ lane. nat_eq (length lane.awaits) 0) lanes

-- ---- how many there are (no public clause cites this)

-- a row of Pascal's triangle, by the one above it
abbrev pub row_below : (ℕ → ℕ) → ℕ → ℕ
row_below row zero = 1
row_below row (suc b) = row (suc b) + row_below row b

-- the orders of two who take a and b steps: either goes first
unfoldable pub ways : ℕ → ℕ → ℕ
ways zero b = 1
ways (suc a) b = row_below (ways a) b

abbrev pub total : List ℕ → ℕ
total steps = sum_over (λ n. n) steps

-- the orders of those who take so many steps: those of the others, and the steps of the first one among theirs
unfoldable pub free_orders : List ℕ → ℕ
free_orders [] = 1
free_orders (steps ∷ others) = ways steps (total others) * free_orders others

-- the steps that each has left
abbrev pub lefts : List LaneValue → List ℕ
lefts lanes = map left_of lanes
