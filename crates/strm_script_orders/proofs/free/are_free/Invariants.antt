use Rattle.std.proofs.Common.{◌≡◌, drop}
use Rattle.strm_script_orders.specs.Free.{is_free}
use Rattle.strm_script_orders.proofs.free.are_free.Given as goal

-- those that are left decide
abbrev pub invariant-loop-lane : goal.invariant-loop-lane
invariant-loop-lane l = is_free (drop l.lane-index l.lanes) ≡ is_free l.lanes
