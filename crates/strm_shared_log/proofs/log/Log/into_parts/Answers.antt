use Rattle.strm_shared_log.proofs.SerialLemmas.{legal_accounts}
use Rattle.strm_shared_log.proofs.log.Log.into_parts.Goals as goal

pub returns-clause-accounts : goal.returns-clause-accounts
returns-clause-accounts g c = rw (← c.self.view_is) (legal_accounts g.M.Kind.Kinds.means _ _ _ c.self.invariant.legal)
