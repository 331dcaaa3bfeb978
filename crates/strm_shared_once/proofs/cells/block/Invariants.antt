use Rattle.std.proofs.Common.{◌≡◌, length}
use Rattle.strm_shared_once.proofs.cells.block.Given as goal

-- so many cells so far
abbrev pub invariant-loop : goal.invariant-loop
invariant-loop g l = length l.cells.items ≡ l.counter
