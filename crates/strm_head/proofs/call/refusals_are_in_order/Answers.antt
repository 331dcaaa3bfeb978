use Rattle.strm_head.proofs.OrderLemmas.{in_order}
use Rattle.strm_head.proofs.call.refusals_are_in_order.Goals as goal

pub returns : goal.returns
returns g c = λ image e request. in_order g.M.Kind.Kinds.means image e request
