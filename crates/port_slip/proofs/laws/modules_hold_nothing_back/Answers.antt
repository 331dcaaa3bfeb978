use Rattle.port_slip.proofs.RestLemmas.{nothing_is_held_back}
use Rattle.port_slip.proofs.laws.modules_hold_nothing_back.Goals as goal

pub returns : goal.returns
returns c = nothing_is_held_back
