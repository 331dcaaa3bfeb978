use Rattle.port_termio.proofs.MessageLemmas.{message_is_typed, raw_message_is_typed}
use Rattle.port_termio.proofs.laws.messages_are_typed.Goals as goal

pub returns-clause-lines : goal.returns-clause-lines
returns-clause-lines c = message_is_typed

pub returns-clause-raw : goal.returns-clause-raw
returns-clause-raw c = raw_message_is_typed
