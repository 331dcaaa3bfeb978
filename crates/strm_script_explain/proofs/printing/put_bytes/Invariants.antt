use Rattle.std.proofs.Common.{map, take}
use Rattle.std.specs.Io.KnownBytes.{Appends}
use Rattle.strm_script_explain.specs.Printing.{shown}
use Rattle.strm_script_explain.proofs.printing.put_bytes.Given as goal

-- the bytes so far are written
abbrev pub invariant-loop-byte : goal.invariant-loop-byte
invariant-loop-byte g l = Appends (g.W.Write.contents l.fn.w) (g.W.Write.contents l.w) (map shown (take l.byte-index l.bytes))
