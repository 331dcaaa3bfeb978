use Rattle.std.proofs.Common.{◌≡◌, true, take}
use Rattle.std.specs.List.{list_all}
use Rattle.strm_script_text.specs.Bytes.{is_itself}
use Rattle.strm_script_text.proofs.runs.plain_bytes.Given as goal

-- the bytes so far stand for themselves
abbrev pub invariant-loop-many : goal.invariant-loop-many
invariant-loop-many l = list_all is_itself (take l.many l.bytes) ≡ true
