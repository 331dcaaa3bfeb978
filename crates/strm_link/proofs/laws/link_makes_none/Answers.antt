use Rattle.strm_link.proofs.LinkLemmas.{makes_none}
use Rattle.strm_link.proofs.laws.link_makes_none.Goals as goal

pub returns : goal.returns
returns c = makes_none
