use Rattle.port_arq_module.proofs.SettlesLemmas.{arq_orderly, arq_settles}
use Rattle.port_arq_module.proofs.laws.arq_settles.Goals as goal

pub returns-clause-orderly : goal.returns-clause-orderly
returns-clause-orderly c = arq_orderly

pub returns-clause-ends : goal.returns-clause-ends
returns-clause-ends c = arq_settles
