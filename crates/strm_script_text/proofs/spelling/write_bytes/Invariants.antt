use Rattle.std.proofs.Common.{◌≤◌, ◌-◌, length, take}
use Rattle.std.specs.Io.KnownBytes.{Appends}
use Rattle.strm_script_text.specs.Spelling.{spelling}
use Rattle.strm_script_text.proofs.spelling.write_bytes.Given as goal

-- the bytes so far are written
abbrev pub invariant-loop-many : goal.invariant-loop-many
invariant-loop-many g l = record {
  within : l.many ≤ length l.bytes;
  text : Appends (g.W.Write.contents l.fn.w) (g.W.Write.contents l.w) (spelling (take l.many l.bytes));
}

abbrev pub decreases-loop-many : goal.decreases-loop-many
decreases-loop-many g l = length l.bytes - l.many
