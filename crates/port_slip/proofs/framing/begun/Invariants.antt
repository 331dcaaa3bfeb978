use Rattle.std.proofs.Common.{◌≡◌, drop}
use Rattle.port_slip.specs.Frame.{begun}
use Rattle.port_slip.proofs.framing.begun.Given as goal

abbrev pub invariant-loop-i : goal.invariant-loop-i
invariant-loop-i l = begun l.bytes ≡ begun (drop l.i l.bytes)
