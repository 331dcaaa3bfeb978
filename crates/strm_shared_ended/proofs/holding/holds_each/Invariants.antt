use Rattle.std.proofs.Common.{◌≡◌, ◌++◌, length}
use Rattle.std.specs.Vec.Iter.{into_iter_items, into_iter_len}
use Rattle.strm_shared_ended.specs.Ended.{AreFirstCalls}
use Rattle.strm_shared_ended.proofs.holding.holds_each.Given as goal

-- the history has each call so far, and these are counted
abbrev pub invariant-loop-own : goal.invariant-loop-own
invariant-loop-own g l = record {
  left : into_iter_len l.own-iterator ≡ length (into_iter_items l.own-iterator);
  rest : l.yielded ++ into_iter_items l.own-iterator ≡ l.fn.receipts.entries.items;
  counted : l.number ≡ length l.yielded;
  held : AreFirstCalls l.ended.history l.caller l.yielded;
}
