use Rattle.std.proofs.Common.{◌≡◌, ◌++◌, List, length, take}
use Rattle.strm_shared_entry.specs.Entry.{Entry}
use Rattle.strm_shared_log.specs.Piece.{AreCounts}
use Rattle.strm_shared_log.proofs.drain.count_calls.Given as goal

-- the calls so far are counted
abbrev pub invariant-loop-at : goal.invariant-loop-at
invariant-loop-at g l = record {
  many : length l.counts.items ≡ length l.initial.counts.items;
  counts : (before : List (Entry _)) → AreCounts l.initial.counts.items before → AreCounts l.counts.items (before ++ take l.at l.entries);
}
