use Rattle.port_termio.proofs.TypingLemmas.{kill_takes_back_all}
use Rattle.port_termio.proofs.laws.keys_edit_lines.Goals as goal

pub returns-clause-kill : goal.returns-clause-kill
returns-clause-kill c = kill_takes_back_all
