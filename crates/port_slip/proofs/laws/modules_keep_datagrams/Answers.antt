use Rattle.port_slip.proofs.SlipLemmas.{datagrams_go_through}
use Rattle.port_slip.proofs.laws.modules_keep_datagrams.Goals as goal

pub returns : goal.returns
returns c = datagrams_go_through
