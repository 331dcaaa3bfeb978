use Rattle.strm_queue.proofs.LanesLemmas.{laned_ordered}
use Rattle.strm_queue.proofs.queue.BandQueue.len.Goals as goal

pub returns-clause-ordered : goal.returns-clause-ordered
returns-clause-ordered c = rw (← c.self.view_is) (laned_ordered c.self.inside.lanes.items c.self.invariant.laned)
