use Rattle.std.proofs.Common.{◌≡◌}
use Rattle.strm_script_orders.specs.Counting.{IsPlaying, orders_from}
use Rattle.strm_script_orders.specs.Lanes.{at_start, steps_left}
use Rattle.strm_script_orders.proofs.counting.play_out.Given as goal

-- the choices so far are made, and as many orders are left from them on
abbrev pub invariant-loop-many : goal.invariant-loop-many
invariant-loop-many l = record {
  playing : IsPlaying l.fn.lanes l.lanes l.order.choices l.order.made l.order.steps;
  begun : orders_from (steps_left l.fn.lanes) l.order.choices l.fn.lanes ≡ orders_from (steps_left l.fn.lanes) l.fn.order.choices l.fn.lanes;
  steps : l.order.steps ≡ l.fn.order.steps;
  same : at_start l.lanes ≡ at_start l.fn.lanes;
}

abbrev pub decreases-loop-many : goal.decreases-loop-many
decreases-loop-many l = steps_left l.lanes
