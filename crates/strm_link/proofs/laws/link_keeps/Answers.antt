use Rattle.strm_link.proofs.LinkLemmas.{keeps}
use Rattle.strm_link.proofs.laws.link_keeps.Goals as goal

pub returns : goal.returns
returns c = keeps
