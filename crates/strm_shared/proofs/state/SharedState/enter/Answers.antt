use Rattle.std.proofs.Common.{sym, ◌∙◌, ◌&&◌}
use Rattle.strm_shared.proofs.TurnLemmas.{done_turned, done_counted, next_within}
use Rattle.strm_shared.proofs.ArrivalLemmas.{call_locked}
use Rattle.strm_shared.proofs.state.SharedState.enter.Goals as goal

pub count-requires-2 : goal.count-requires-2
count-requires-2 g c next = next_within _ c.args.seat.now _ (c.args.seat.now.shown && c.has_receipt.result) _ c.count.ensures (sym c.is_next-is_next.ensures ∙ next)

pub invariant_of-self : goal.invariant_of-self
invariant_of-self g c =
    let by = rw c.requires.room at c.enter-called.ensures.call in
    call_locked g.M.Kind.Kinds.means g.N.StreamRunName.calls _ g.A.ReplyForm.Agrees _ _ c.args.seat.now c.args.call c.enter-called.result _ _ _ by (done_turned _ c.args.seat.now _ (c.args.seat.now.shown && c.has_receipt.result) c.enter-called.result _ _ _ (sym c.enter-called.ensures.made) c.is_next-is_next.ensures c.count.ensures c.count-2.ensures) c.requires.next c.self.invariant

pub returns-clause-log : goal.returns-clause-log
returns-clause-log g c = rw (← c.self.view_is) (rw c.requires.room at c.enter-called.ensures.call)

pub returns-clause-counts : goal.returns-clause-counts
returns-clause-counts g c =
    done_counted c.args.call c.args.seat.now _ c.enter-called.result (sym c.enter-called.ensures.made) (rw c.has_receipt.ensures at c.count.ensures)

pub returns-clause-turns : goal.returns-clause-turns
returns-clause-turns g c =
    rw (← c.self.view_is)
    (done_turned _ c.args.seat.now _ (c.args.seat.now.shown && c.has_receipt.result) c.enter-called.result _ _ _ (sym c.enter-called.ensures.made) c.is_next-is_next.ensures c.count.ensures c.count-2.ensures)
