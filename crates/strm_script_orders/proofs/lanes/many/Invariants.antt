use Rattle.std.proofs.Common.{◌≡◌, ◌+◌, ◌≤◌, drop, length}
use Rattle.strm_script_orders.specs.Lanes.{goers, goers_from}
use Rattle.strm_script_orders.proofs.lanes.many.Given as goal

-- with those that are left there are as many
abbrev pub invariant-loop-lane : goal.invariant-loop-lane
invariant-loop-lane l = record {
  few : l.many ≤ l.lane-index;
  all : l.many + length (goers_from l.lanes l.lane-index (drop l.lane-index l.lanes)) ≡ length (goers l.lanes);
}
