use Rattle.port_arq_module.proofs.AnswerLemmas.{arq_stays}
use Rattle.port_arq_module.proofs.laws.arq_answers_stay.Goals as goal

pub returns : goal.returns
returns c = arq_stays
