use Rattle.std.proofs.Common.{arith}
use Rattle.strm_queue.proofs.RoomLemmas.{room-kept}
use Rattle.strm_queue.proofs.queue.BandQueue.get.Goals as goal

pub returns-in_err-m-clause-room : goal.returns-in_err-m-clause-room
returns-in_err-m-clause-room c = λ rank.
    rw (← c.self.view_is) (room-kept _ _ _ _ (omega arith) c.in_err-m.ensures.room rank)

pub returns-clause-room : goal.returns-clause-room
returns-clause-room c = λ rank.
    rw (← c.self.view_is) (room-kept _ _ _ _ (omega arith) c.in_ok-m.ensures.room rank)
