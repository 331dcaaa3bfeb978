use Rattle.std.proofs.Common.{◌≡◌}
use Rattle.strsh.proofs.orders.tally_listed.Given as goal

-- the orders so far were counted
abbrev pub invariant-loop : goal.invariant-loop
invariant-loop g l = l.tally.orders ≡ l.counter
