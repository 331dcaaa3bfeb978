use Rattle.port_arq_module.proofs.BetweenLemmas.{modules_carry_data}
use Rattle.port_arq_module.proofs.laws.modules_carry_data.Goals as goal

pub returns : goal.returns
returns c = modules_carry_data
