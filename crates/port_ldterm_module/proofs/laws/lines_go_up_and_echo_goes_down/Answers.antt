use Rattle.port_ldterm_module.proofs.SentLemmas.{lines_are_sent}
use Rattle.port_ldterm_module.proofs.RawLemmas.{raw_keys_are_sent}
use Rattle.port_ldterm_module.proofs.laws.lines_go_up_and_echo_goes_down.Goals as goal

pub returns-clause-lines : goal.returns-clause-lines
returns-clause-lines c = lines_are_sent

pub returns-clause-raw : goal.returns-clause-raw
returns-clause-raw c = raw_keys_are_sent
