use Rattle.std.proofs.Common.{arith}
use Rattle.strm_queue.proofs.RoomLemmas.{room-kept}
use Rattle.strm_queue.proofs.queue.BandQueue.flush.Goals as goal

pub returns-clause-room : goal.returns-clause-room
returns-clause-room c = λ rank.
    rw (← c.self.view_is) (room-kept _ _ _ _ (omega arith) c.flush_all.ensures.room rank)
