use Rattle.port_arq_module.proofs.EndLemmas.{module_does_as_its_end}
use Rattle.port_arq_module.proofs.laws.modules_do_as_their_ends.Goals as goal

pub returns : goal.returns
returns c = module_does_as_its_end
