use Rattle.std.proofs.Common.{◌≡◌, ◌-◌, ◌≤◌, ◌^◌, drop, length, min}
use Rattle.strm_script_orders.specs.Free as says
use Rattle.strm_script_orders.proofs.free.free_orders.Given as goal

-- the orders of those from this number on
abbrev pub invariant-loop-number : goal.invariant-loop-number
invariant-loop-number l = record {
  within : l.number ≤ length l.lanes;
  steps : l.steps ≡ says.total (says.lefts (drop l.number l.lanes));
  orders : l.orders ≡ min (says.free_orders (says.lefts (drop l.number l.lanes))) (2 ^ 64 - 1);
}

abbrev pub decreases-loop-number : goal.decreases-loop-number
decreases-loop-number l = l.number
