use Rattle.port_arq.proofs.FrameLemmas.{frames_come_back, frames_have_one_spelling}
use Rattle.port_arq.proofs.laws.frames_come_back.Goals as goal

pub returns-clause-back : goal.returns-clause-back
returns-clause-back c = frames_come_back

pub returns-clause-one : goal.returns-clause-one
returns-clause-one c = frames_have_one_spelling
