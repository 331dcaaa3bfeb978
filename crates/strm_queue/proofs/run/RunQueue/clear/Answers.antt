use Rattle.std.proofs.Common.{arith}
use Rattle.strm_queue.proofs.RunLemmas.{once_none}
use Rattle.strm_queue.proofs.run.RunQueue.clear.Goals as goal

pub invariant_of-self : goal.invariant_of-self
invariant_of-self c =
    (rw c.clear.ensures.items (once_none c.self.inside.places), omega (arith, c.self.invariant.1, c.clear.ensures.capacity))
