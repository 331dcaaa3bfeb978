use Rattle.std.proofs.Common.{length}
use Rattle.port_arq.proofs.waiting.+are_same.Given as goal

-- the rest of a list is shorter
abbrev pub decreases-are_same : goal.decreases-are_same
decreases-are_same l = length l.one.now
