use Rattle.std.proofs.Common.{◌≡◌, take}
use Rattle.port_arq_line.specs.Reading.{read_in}
use Rattle.port_arq_line.proofs.reading.read_in.Given as goal

-- what the steps so far gave
abbrev pub invariant-loop-kept : goal.invariant-loop-kept
invariant-loop-kept g l = l.all.items ≡ read_in (take l.kept-index l.log.history.items)
