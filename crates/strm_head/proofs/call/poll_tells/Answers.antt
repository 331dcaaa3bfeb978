use Rattle.strm_head.proofs.PollLemmas.{tells}
use Rattle.strm_head.proofs.call.poll_tells.Goals as goal

pub returns : goal.returns
returns g c = λ image e nval err. tells g.M.Kind.Kinds.means image e nval err
