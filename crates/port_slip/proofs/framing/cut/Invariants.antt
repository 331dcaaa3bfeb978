use Rattle.std.proofs.Common.{◌≡◌, drop, take}
use Rattle.port_slip.specs.Frame.{cut}
use Rattle.port_slip.proofs.FrameLemmas.{with_front}
use Rattle.port_slip.proofs.framing.cut.Given as goal

abbrev pub invariant-loop-i : goal.invariant-loop-i
invariant-loop-i l = cut l.bytes ≡ with_front (take l.i l.bytes) (cut (drop l.i l.bytes))
