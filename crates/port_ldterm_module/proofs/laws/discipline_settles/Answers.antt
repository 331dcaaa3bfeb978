use Rattle.port_ldterm_module.proofs.SettlesLemmas.{discipline_orderly, discipline_settles}
use Rattle.port_ldterm_module.proofs.laws.discipline_settles.Goals as goal

pub returns-clause-orderly : goal.returns-clause-orderly
returns-clause-orderly c = discipline_orderly

pub returns-clause-ends : goal.returns-clause-ends
returns-clause-ends c = discipline_settles
