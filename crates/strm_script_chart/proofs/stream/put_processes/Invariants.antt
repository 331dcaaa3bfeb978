use Rattle.std.proofs.Common.{take, map}
use Rattle.std.specs.Io.KnownBytes.{Appends}
use Rattle.strm_script_chart.specs.Chart.{process_names}
use Rattle.strm_script_chart.proofs.stream.put_processes.Given as goal

-- the names so far are written
abbrev pub invariant-loop-left : goal.invariant-loop-left
invariant-loop-left g l = Appends (g.W.Write.contents l.fn.w) (g.W.Write.contents l.w) (process_names (map (λ name. name.items) (take l.left l.processes)))
