use Rattle.std.proofs.Common.{◌≡◌, take}
use Rattle.std.specs.List.{list_all}
use Rattle.strm_script_text.specs.Bytes.{is_itself}
use Rattle.strm_script_text.proofs.runs.are_plain.Given as goal

-- what was found of the bytes so far
abbrev pub invariant-loop-byte : goal.invariant-loop-byte
invariant-loop-byte l = l.plain ≡ list_all is_itself (take l.byte-index l.bytes)
