use Rattle.strm_chain_settling.proofs.SettlingLemmas.{builtin_settles}
use Rattle.strm_chain_settling.proofs.laws.builtin_settles.Goals as goal

pub returns : goal.returns
returns c = builtin_settles
