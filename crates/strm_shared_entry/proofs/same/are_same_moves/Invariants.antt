use Rattle.std.proofs.Common.{◌≡◌, length, take}
use Rattle.strm_shared_entry.proofs.same.are_same_moves.Given as goal

-- as many moves, the same so far
abbrev pub invariant-loop-i : goal.invariant-loop-i
invariant-loop-i l = record {
  many : length l.one ≡ length l.other;
  same : take l.i l.one ≡ take l.i l.other;
}
