use Rattle.std.proofs.Common.{take}
use Rattle.strm_script_print.specs.LineBuffer.{BufferAppends}
use Rattle.strm_script_print.specs.Fields.{spaced}
use Rattle.strm_script_print.specs.Replies.{name_fields}
use Rattle.strm_script_print.proofs.field.add_names.Given as goal

-- the names so far are put
abbrev pub invariant-loop-name : goal.invariant-loop-name
invariant-loop-name g l = BufferAppends (g.W.Write.contents l.fn.w) (g.W.Write.contents l.w) l.fn.out l.out (spaced (name_fields (take l.name-index l.names)))
