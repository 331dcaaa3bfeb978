use Rattle.port_slip.proofs.AnswerLemmas.{slip_stays}
use Rattle.port_slip.proofs.laws.slip_answers_stay.Goals as goal

pub returns : goal.returns
returns c = slip_stays
