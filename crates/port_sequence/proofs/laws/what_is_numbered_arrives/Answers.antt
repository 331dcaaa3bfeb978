use Rattle.port_sequence.proofs.SequenceLemmas.{arrives}
use Rattle.port_sequence.proofs.laws.what_is_numbered_arrives.Goals as goal

pub returns : goal.returns
returns c = arrives
