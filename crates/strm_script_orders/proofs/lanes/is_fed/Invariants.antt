use Rattle.std.proofs.Common.{◌≡◌, drop}
use Rattle.strm_script_orders.specs.Lanes as says
use Rattle.strm_script_orders.proofs.lanes.is_fed.Given as goal

-- the feeds that are left decide
abbrev pub invariant-loop-lane : goal.invariant-loop-lane
invariant-loop-lane l = says.is_fed (drop l.lane-index l.lanes) l.stream ≡ says.is_fed l.lanes l.stream
