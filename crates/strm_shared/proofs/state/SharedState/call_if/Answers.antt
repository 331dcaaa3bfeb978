use Rattle.std.proofs.Common.{◌≡◌, true}
use Rattle.strm_shared_log.proofs.LogLemmas.{calls_same}
use Rattle.strm_shared.proofs.WaitLemmas.{waited_on}
use Rattle.strm_shared.proofs.state.SharedState.call_if.Goals as goal

pub returns-in-Ok-clause-log : goal.returns-in-Ok-clause-log
returns-in-Ok-clause-log g c =
    rw (← c.self.view_is) (calls_same g.M.Kind.Kinds.means g.A.ReplyForm.Agrees _ _ _ _ _ c.args.call c.enter.result c.in-Ok.ensures.same c.enter.ensures.log)

-- other room for entries leaves the stream as it was at the look
pub returns-in-Ok-clause-waited : goal.returns-in-Ok-clause-waited
returns-in-Ok-clause-waited g c =
    let is_ready : c.args.is_ready ≡ true = cc c.if-not-is_ready.false in
    let ready = rw (← c.self.view_is) at c.requires.ready is_ready in
    waited_on g.M.Kind.Kinds.means g.A.ReplyForm.Agrees _ _ _ _ c.args.call c.enter.result _ c.in-Ok.ensures.same c.enter.ensures.log ready
