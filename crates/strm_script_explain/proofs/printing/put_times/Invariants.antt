use Rattle.std.proofs.Common.{replicate}
use Rattle.std.specs.Io.KnownBytes.{Appends}
use Rattle.strm_script_explain.proofs.printing.put_times.Given as goal

-- the byte is written so many times
abbrev pub invariant-loop-i : goal.invariant-loop-i
invariant-loop-i g l = Appends (g.W.Write.contents l.fn.w) (g.W.Write.contents l.w) (replicate l.i l.byte)
