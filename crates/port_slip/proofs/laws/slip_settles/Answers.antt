use Rattle.port_slip.proofs.SettlesLemmas.{slip_settles}
use Rattle.port_slip.proofs.laws.slip_settles.Goals as goal

pub returns : goal.returns
returns c = slip_settles
