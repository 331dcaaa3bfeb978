use Rattle.std.specs.Io.KnownBytes.{Appends}
use Rattle.std.specs.List.{repeat}
use Rattle.strm_script_chart.proofs.columns.put_times.Given as goal

-- the part is written so many times
abbrev pub invariant-loop-i : goal.invariant-loop-i
invariant-loop-i g l = Appends (g.W.Write.contents l.fn.w) (g.W.Write.contents l.w) (repeat l.i l.part)
