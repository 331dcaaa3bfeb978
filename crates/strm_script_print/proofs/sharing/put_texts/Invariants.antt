use Rattle.std.proofs.Common.{take}
use Rattle.std.specs.Io.KnownBytes.{Appends}
use Rattle.strm_script_print.specs.Sharing.{joined}
use Rattle.strm_script_print.proofs.sharing.put_texts.Given as goal

-- the texts so far are written
abbrev pub invariant-loop-text : goal.invariant-loop-text
invariant-loop-text g l = Appends (g.W.Write.contents l.fn.w) (g.W.Write.contents l.w) (joined (take l.text-index l.texts))
