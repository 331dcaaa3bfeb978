use Rattle.std.proofs.Common.{◌≡◌, ◌++◌, map, take, drop}
use Rattle.strm_script_orders.specs.Lanes.{as_before}
use Rattle.strm_script_orders.proofs.lanes.start_again.Given as goal

-- those so far have taken no step
abbrev pub invariant-loop-lane : goal.invariant-loop-lane
invariant-loop-lane l = l.lanes ≡ map as_before (take l.lane-index l.fn.lanes) ++ drop l.lane-index l.fn.lanes
