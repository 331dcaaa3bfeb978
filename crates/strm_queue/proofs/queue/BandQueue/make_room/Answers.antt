use Rattle.std.proofs.Common.{◌-◌, ◌<◌, subst, sym, arith}
use Rattle.strm_queue.specs.Lanes.{spare_of}
use Rattle.strm_queue.proofs.RoomLemmas.{room-kept, room-some, room-made}
use Rattle.strm_queue.proofs.ChangeLemmas.{on_ok}
use Rattle.strm_queue.proofs.queue.BandQueue.make_room.Goals as goal

pub returns-then-self-eq-MOST-clause-enough : goal.returns-then-self-eq-MOST-clause-enough
returns-then-self-eq-MOST-clause-enough c = λ some.
    let here = rw (← c.self.view_is) at some in
    let left = room-some _ c.args.rank c.self.inside.lanes.items here in
    absurd (omega (arith, left.0, c.if-self-eq-MOST.true))

pub returns-clause-room : goal.returns-clause-room
returns-clause-room c =
    let some : 0 < 9223372036854775807 - c.self.inside.len = omega (arith, c.self.invariant.most, c.if-self-eq-MOST.false) in
    on_ok c.reserve_at.result _ _ (λ spare. room-made _ c.args.rank c.min.result c.reserve_at.new.lanes.items c.min.ensures some spare) c.reserve_at.ensures.room

pub returns-clause-enough : goal.returns-clause-enough
returns-clause-enough c = λ some.
    let here = rw (← c.self.view_is) at some in
    let left = room-some _ c.args.rank c.self.inside.lanes.items here in
    c.reserve_at.ensures.enough (subst (λ rank. 0 < spare_of rank c.self.inside.lanes.items) (sym c.min.ensures) left.1)

pub returns-clause-kept : goal.returns-clause-kept
returns-clause-kept c = λ rank.
    rw (← c.self.view_is) (room-kept _ _ _ _ (omega arith) c.reserve_at.ensures.kept rank)
