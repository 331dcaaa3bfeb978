use Rattle.std.proofs.Common.{◌≡◌, ◌-◌, ◌^◌, min, sum_by, take}
use Rattle.strm_script_orders.specs.Lanes.{left_of}
use Rattle.strm_script_orders.proofs.lanes.Lanes.steps_left.Given as goal

-- the steps of those so far
abbrev pub invariant-loop-lane : goal.invariant-loop-lane
invariant-loop-lane l = l.steps ≡ min (sum_by left_of (take l.lane-index l.self)) (2 ^ 64 - 1)
