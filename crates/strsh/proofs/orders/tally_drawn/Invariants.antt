use Rattle.std.proofs.Common.{◌≡◌}
use Rattle.strsh.proofs.orders.tally_drawn.Given as goal

-- the orders so far were counted
abbrev pub invariant-loop-seed : goal.invariant-loop-seed
invariant-loop-seed g l = l.tally.orders ≡ l.seed-counter
