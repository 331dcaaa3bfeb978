use Rattle.std.proofs.Common.{◌≡◌, ◌≤◌, nat_eq, drop}
use Rattle.std.specs.List.{position_from}
use Rattle.strm_script_orders.specs.Lanes.{goers_from}
use Rattle.strm_script_orders.specs.Spelt.{rank_of}
use Rattle.strm_script_orders.proofs.lanes.rank.Given as goal

-- it is one of those that are left
abbrev pub invariant-loop-other : goal.invariant-loop-other
invariant-loop-other l = record {
  few : l.rank ≤ l.other;
  found : position_from (λ n. nat_eq n l.number) l.rank (goers_from l.lanes l.other (drop l.other l.lanes)) ≡ rank_of l.lanes l.number;
}
