use Rattle.std.proofs.Common.{◌≡◌, ◌+◌, ◌-◌, ◌≤◌}
use Rattle.strm_script_orders.specs.Counting.{IsPath, orders_from, orders_of}
use Rattle.strm_script_orders.specs.Lanes.{at_start, steps_left}
use Rattle.strm_script_orders.proofs.counting.count.Given as goal

-- with those that are left there are as many
abbrev pub invariant-loop-count : goal.invariant-loop-count
invariant-loop-count l = record {
  start : l.lanes ≡ at_start l.fn.lanes;
  path : IsPath l.order.choices (at_start l.fn.lanes);
  made : l.order.made ≡ 0;
  room : steps_left (at_start l.fn.lanes) ≤ l.order.steps;
  all : l.count + orders_from (steps_left (at_start l.fn.lanes)) l.order.choices (at_start l.fn.lanes) ≡ orders_of (at_start l.fn.lanes);
  few : l.count ≤ l.limit + 1;
}

abbrev pub decreases-loop-count : goal.decreases-loop-count
decreases-loop-count l = l.limit + 1 - l.count
