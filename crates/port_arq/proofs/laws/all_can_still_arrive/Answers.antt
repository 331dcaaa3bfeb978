use Rattle.port_arq.proofs.ArrivalLemmas.{all_can_still_arrive}
use Rattle.port_arq.proofs.laws.all_can_still_arrive.Goals as goal

pub returns : goal.returns
returns c = all_can_still_arrive
