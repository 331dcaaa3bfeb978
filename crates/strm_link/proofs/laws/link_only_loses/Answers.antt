use Rattle.strm_link.proofs.LinkLemmas.{only_loses}
use Rattle.strm_link.proofs.laws.link_only_loses.Goals as goal

pub returns : goal.returns
returns c = only_loses
