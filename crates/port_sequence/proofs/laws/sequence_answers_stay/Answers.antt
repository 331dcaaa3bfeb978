use Rattle.std.proofs.Common.{refl}
use Rattle.port_sequence.proofs.laws.sequence_answers_stay.Goals as goal

pub returns : goal.returns
returns c = record { acts = λ s side other m. refl; own = λ s side other. refl; expire = λ s ticks other. refl }
