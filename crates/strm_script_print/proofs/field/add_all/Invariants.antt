use Rattle.std.proofs.Common.{take, map}
use Rattle.strm_script_print.specs.LineBuffer.{BufferAppends}
use Rattle.strm_script_print.specs.Fields.{said, spaced}
use Rattle.strm_script_print.proofs.field.add_all.Given as goal

-- the fields so far are put
abbrev pub invariant-loop-field : goal.invariant-loop-field
invariant-loop-field g l = BufferAppends (g.W.Write.contents l.fn.w) (g.W.Write.contents l.w) l.fn.out l.out (spaced (map said (take l.field-index l.fields)))
