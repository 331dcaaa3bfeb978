use Rattle.std.proofs.Common.{◌≡◌, length}
use Rattle.strm_run_callers.proofs.feeding.Feeding.offer.Given as goal

-- the feed is the one that it was
abbrev pub invariant-loop : goal.invariant-loop
invariant-loop g l = l.self.number ≡ l.fn.self.number

abbrev pub decreases-loop : goal.decreases-loop
decreases-loop g l = length l.self.left
