use Rattle.std.proofs.Common.{◌≡◌, ◌∷◌, take}
use Rattle.port_slip.specs.Frame.{escaped}
use Rattle.port_slip.proofs.framing.frame.Given as goal

abbrev pub invariant-loop-b : goal.invariant-loop-b
invariant-loop-b l = l.out.items ≡ 192 ∷ escaped (take l.b-index l.datagram)
