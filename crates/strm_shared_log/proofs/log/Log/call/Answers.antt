use Rattle.strm_shared_log.specs.Log.{Equals}
use Rattle.strm_shared_log.proofs.LogLemmas.{calls_same}
use Rattle.strm_shared_log.proofs.log.Log.call.Goals as goal

-- room for the entry changes nothing else
pub returns : goal.returns
returns g c =
    calls_same g.M.Kind.Kinds.means Equals _ _ _ c.args.caller c.args.number c.args.call c.enter.result c.in-Ok-reserve.ensures.same (rw c.in-Ok.ensures at c.enter.ensures.call)
