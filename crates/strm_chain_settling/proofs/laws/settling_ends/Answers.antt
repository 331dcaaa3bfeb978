use Rattle.strm_chain_settling.proofs.SettlingLemmas.{settling_ends}
use Rattle.strm_chain_settling.proofs.laws.settling_ends.Goals as goal

pub returns : goal.returns
returns g c = settling_ends
