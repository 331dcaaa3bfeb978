use Rattle.std.proofs.Common.{◌≡◌, drop}
use Rattle.port_arq.proofs.waiting.drop_first.Given as goal

abbrev pub invariant-loop : goal.invariant-loop
invariant-loop l = l.waiting.items ≡ drop l.counter l.fn.waiting.items
