use Rattle.port_ldterm_module.proofs.AnswerLemmas.{discipline_stays}
use Rattle.port_ldterm_module.proofs.laws.discipline_answers_stay.Goals as goal

pub returns : goal.returns
returns c = discipline_stays
