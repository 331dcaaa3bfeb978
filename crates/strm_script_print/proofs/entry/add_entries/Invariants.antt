use Rattle.std.proofs.Common.{take, map}
use Rattle.strm_script_print.specs.LineBuffer.{BufferAppends}
use Rattle.strm_script_print.specs.Lines.{entries_text}
use Rattle.strm_script_print.proofs.entry.add_entries.Given as goal

-- the steps so far are put
abbrev pub invariant-loop-kept : goal.invariant-loop-kept
invariant-loop-kept g l = BufferAppends (g.W.Write.contents l.fn.w) (g.W.Write.contents l.w) l.fn.out l.out (entries_text g.K.PrintKind.spelling (map (λ name. name.items) l.processes) l.stream (take l.kept-index l.entries))
