use Rattle.strm_head_service.proofs.TakeLemmas.{getq_is_take}
use Rattle.strm_head_service.proofs.serving.getq_is_take.Goals as goal

pub returns : goal.returns
returns g c = getq_is_take g.M.Kind.Kinds.means
