use Rattle.std.proofs.Common.{◌≡◌, ◌<◌, ◌^◌}
use Rattle.strm_script_orders.specs.Free as says
use Rattle.strm_script_orders.proofs.free.ways_of.Given as goal

-- the orders of so few steps of the second one
abbrev pub invariant-loop-k : goal.invariant-loop-k
invariant-loop-k l = record {
  small : l.ways < 2 ^ 64;
  row : l.ways ≡ says.ways l.many l.k;
}
