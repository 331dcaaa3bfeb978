-- The chain behind a refused delivery or settling.
use Rattle.std.specs.Prelude.{◌⊎◌}
use Rattle.strm_msg.specs.Message.{Msg}
use Rattle.strm_chain_ends.specs.Image.{Image}
use Rattle.strm_chain.specs.Deliver.{deliver}
use Rattle.strm_chain.specs.Fault.{Refuses}
use Rattle.strm_chain.specs.declared.fault.ChainFault.{ChainFault}
use Rattle.strm_chain.specs.declared.spot.Spot.{Spot}
use Rattle.port_slip.specs.Slip.{slip}
use Rattle.port_slip.specs.declared.kinds.SlipKind.{SlipKind}

-- the chain that a refused delivery leaves, or that a refused settling leaves behind the delivery
abbrev pub Stops : ChainFault → Image SlipKind → Spot → Msg → Image SlipKind → Type 0
Stops fault old spot m new = Refuses fault old new ⊎ Refuses fault (deliver slip old spot m) new
