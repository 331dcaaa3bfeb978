use Rattle.std.proofs.Common.{◌≡◌, ◌++◌, All, length}
use Rattle.std.specs.Vec.Iter.{into_iter_items, into_iter_len}
use Rattle.strm_shared_ended.specs.Ended.{AreHeld}
use Rattle.strm_shared_ended.proofs.holding.holds_all.Given as goal

-- the history has the calls of each caller so far
abbrev pub invariant-loop-mine : goal.invariant-loop-mine
invariant-loop-mine g l = record {
  left : into_iter_len l.mine-iterator ≡ length (into_iter_items l.mine-iterator);
  rest : l.yielded ++ into_iter_items l.mine-iterator ≡ l.fn.receipts.items;
  held : All (λ mine. AreHeld l.ended.history mine) l.yielded;
}
