use Rattle.strm_shared_log.proofs.PieceLemmas.{leads_on}
use Rattle.strm_shared_log.proofs.piece.a_piece_leads_on.Goals as goal

pub returns : goal.returns
returns g c = λ setup before piece history. leads_on g.M.Kind.Kinds.means setup before piece history
