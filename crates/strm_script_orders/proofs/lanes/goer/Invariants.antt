use Rattle.std.proofs.Common.{◌≡◌, drop, slice_get}
use Rattle.strm_script_orders.specs.Lanes.{goers, goers_from}
use Rattle.strm_script_orders.proofs.lanes.goer.Given as goal

-- it is one of those that are left
abbrev pub invariant-loop-number : goal.invariant-loop-number
invariant-loop-number l =
    slice_get (goers_from l.lanes l.number (drop l.number l.lanes)) l.left ≡ slice_get (goers l.lanes) l.choice
