use Rattle.port_slip.proofs.CalmLemmas.{slip_calm}
use Rattle.port_slip.proofs.laws.slip_is_calm.Goals as goal

pub returns : goal.returns
returns c = slip_calm
