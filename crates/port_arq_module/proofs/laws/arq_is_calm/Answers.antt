use Rattle.port_arq_module.proofs.CalmLemmas.{arq_calm}
use Rattle.port_arq_module.proofs.laws.arq_is_calm.Goals as goal

pub returns : goal.returns
returns c = arq_calm
