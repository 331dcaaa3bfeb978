use Rattle.std.proofs.Common.{◌≡◌, ◌&&◌, nat_eq, drop}
use Rattle.std.specs.List.{list_any}
use Rattle.strm_script_orders.specs.Lanes as says
use Rattle.strm_script_orders.proofs.lanes.Lane.waits.Given as goal

-- the awaits that are left decide
abbrev pub invariant-loop-one : goal.invariant-loop-one
invariant-loop-one l = list_any (λ await. nat_eq await.call l.self-inside.taken && says.is_fed l.lanes await.stream) (drop l.one-index l.self-inside.awaits.items) ≡ list_any (λ await. nat_eq await.call l.self-inside.taken && says.is_fed l.lanes await.stream) l.self-inside.awaits.items
