use Rattle.std.proofs.Common.{◌≡◌, ◌+◌, ◌-◌, ◌≤◌, length, take}
use Rattle.strm_shared_entry.specs.Own.{own}
use Rattle.strm_shared_log.proofs.piece.nth_call.Given as goal

-- the calls of the caller that have not come yet, before the one that is looked for
abbrev pub invariant-loop-at : goal.invariant-loop-at
invariant-loop-at g l = record {
  some : 1 ≤ l.number;
  left : l.before + length (own l.caller (take l.at l.entries)) ≡ l.number - 1;
}
