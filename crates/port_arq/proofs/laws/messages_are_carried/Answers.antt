use Rattle.port_arq.proofs.LinkLemmas.{messages_are_carried}
use Rattle.port_arq.proofs.laws.messages_are_carried.Goals as goal

pub returns : goal.returns
returns c = messages_are_carried
