use Rattle.std.proofs.Common.{◌≡◌, take}
use Rattle.port_arq.proofs.waiting.copied.Given as goal

abbrev pub invariant-loop-one : goal.invariant-loop-one
invariant-loop-one l = l.copy.items ≡ take l.one-index l.fn.waiting.items
