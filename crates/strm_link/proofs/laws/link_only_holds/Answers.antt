use Rattle.strm_link.proofs.LinkLemmas.{only_holds}
use Rattle.strm_link.proofs.laws.link_only_holds.Goals as goal

pub returns : goal.returns
returns c = only_holds
