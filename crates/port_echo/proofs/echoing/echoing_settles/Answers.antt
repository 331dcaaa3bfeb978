use Rattle.port_echo.proofs.EchoingLemmas.{echoing_orderly, echoing_settles}
use Rattle.port_echo.proofs.echoing.echoing_settles.Goals as goal

pub returns-clause-orderly : goal.returns-clause-orderly
returns-clause-orderly c = echoing_orderly

pub returns-clause-ends : goal.returns-clause-ends
returns-clause-ends c = echoing_settles
