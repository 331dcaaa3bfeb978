use Rattle.std.proofs.Common.{arith}
use Rattle.std.proofs.lemmas.Grind.{common_steps}
use Rattle.strm_queue.proofs.OrderLemmas.{put_in-behind_last}
use Rattle.strm_queue.proofs.LanesLemmas.{laned_ordered}
use Rattle.strm_queue.proofs.FrontLemmas.{lowered_empty}
use Rattle.strm_queue.proofs.RoomLemmas.{room-kept, room-le, room-some}
use Rattle.strm_queue.proofs.ChangeLemmas.{on_any_err}
use Rattle.strm_msg.specs.Message.{rank_of}
use Rattle.strm_queue.proofs.queue.BandQueue.put.Goals as goal

pub returns-then-self-eq-MOST-clause-place : goal.returns-then-self-eq-MOST-clause-place
returns-then-self-eq-MOST-clause-place c = rw (← c.self.view_is) (put_in-behind_last _ c.args.m (laned_ordered c.self.inside.lanes.items c.self.invariant.laned))

pub returns-then-self-eq-MOST-clause-room : goal.returns-then-self-eq-MOST-clause-room
returns-then-self-eq-MOST-clause-room c = λ some.
    let here = rw (← c.self.view_is) at some in
    let left = room-some _ (rank_of c.args.m) c.self.inside.lanes.items here in
    absurd (omega (arith, left.0, c.if-self-eq-MOST.true))

pub returns-in_err-at-clause-place : goal.returns-in_err-at-clause-place
returns-in_err-at-clause-place c = rw (← c.self.view_is) (put_in-behind_last _ c.args.m (laned_ordered c.self.inside.lanes.items c.self.invariant.laned))

pub returns-in_err-at-clause-room : goal.returns-in_err-at-clause-room
returns-in_err-at-clause-room c = λ some.
    let here = rw (← c.self.view_is) at some in
    let left = room-some _ (rank_of c.args.m) c.self.inside.lanes.items here in
    let is_ok = c.in_err-at.ensures.room left.1 in
    cc

pub returns-in_err-at-clause-unspent : goal.returns-in_err-at-clause-unspent
returns-in_err-at-clause-unspent c =
    on_any_err c.from_residual.result _ (λ rank. rw (← c.self.view_is) (room-kept _ _ _ _ (omega arith) c.in_err-at.ensures.unspent rank))

pub returns-clause-place : goal.returns-clause-place
returns-clause-place c = rw (← c.self.view_is) (put_in-behind_last _ c.args.m (laned_ordered c.self.inside.lanes.items c.self.invariant.laned))

pub returns-clause-spent : goal.returns-clause-spent
returns-clause-spent c = λ rank.
    rw (← c.self.view_is) (room-le 1 _ _ _ _ (omega arith) c.in_ok-at.ensures.spent rank)

pub invariant_of-self-2 : goal.invariant_of-self-2
invariant_of-self-2 c = record {
  laned = c.in_ok-at.ensures.laned;
  empty = rw c.min-self-inside.ensures (lowered_empty c.self.inside.front c.in_ok-at.at c.self.inside.lanes.items c.push_last_of_rank.new.lanes.items c.in_ok-at.ensures.before c.self.invariant.empty);
  counted = grind (arith, common_steps);
  most = omega (arith, c.self.invariant.most, c.if-self-eq-MOST.false);
}
