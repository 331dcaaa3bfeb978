use Rattle.port_ldterm_module.proofs.CalmLemmas.{discipline_calm}
use Rattle.port_ldterm_module.proofs.laws.discipline_is_calm.Goals as goal

pub returns : goal.returns
returns c = discipline_calm
