use Rattle.strm_module.proofs.AnswerLemmas.{builtin_stays}
use Rattle.strm_module.proofs.laws.builtin_answers_stay.Goals as goal

pub returns : goal.returns
returns c = builtin_stays
