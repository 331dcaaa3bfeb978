use Rattle.std.proofs.Common.{take}
use Rattle.std.specs.Io.KnownBytes.{Appends}
use Rattle.strm_script_chart.specs.Chart.{entries_rows}
use Rattle.strm_script_chart.proofs.entry.put_entries.Given as goal

-- the rows of the steps so far are written
abbrev pub invariant-loop-kept : goal.invariant-loop-kept
invariant-loop-kept g l = Appends (g.W.Write.contents l.fn.w) (g.W.Write.contents l.w) (entries_rows g.K.PrintKind.spelling l.n l.driver l.stream (take l.kept-index l.entries))
