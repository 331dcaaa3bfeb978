use Rattle.port_sequence.proofs.CalmLemmas.{sequence_calm}
use Rattle.port_sequence.proofs.laws.sequence_is_calm.Goals as goal

pub returns : goal.returns
returns c = sequence_calm
