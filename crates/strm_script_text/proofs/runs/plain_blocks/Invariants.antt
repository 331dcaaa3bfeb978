use Rattle.std.proofs.Common.{◌≡◌, ◌≤◌, ◌-◌, true, take, length}
use Rattle.std.specs.List.{list_all}
use Rattle.strm_script_text.specs.Bytes.{is_itself}
use Rattle.strm_script_text.proofs.runs.plain_blocks.Given as goal

-- the blocks so far are within, and stand for themselves
abbrev pub invariant-loop-many : goal.invariant-loop-many
invariant-loop-many l = record {
  within : l.many ≤ length l.bytes;
  plain : list_all is_itself (take l.many l.bytes) ≡ true;
}

abbrev pub decreases-loop-many : goal.decreases-loop-many
decreases-loop-many l = length l.bytes - l.many
