use Rattle.std.proofs.Common.{◌≡◌, ◌++◌, length}
use Rattle.std.specs.Vec.Iter.{into_iter_items, into_iter_len}
use Rattle.strm_run.specs.Inside.Ending.{seats_of, AreParted}
use Rattle.strm_run.proofs.ending.split_receipts.Given as goal

-- the seats so far, and their receipts
abbrev pub invariant-loop-account : goal.invariant-loop-account
invariant-loop-account g l = record {
  left : into_iter_len l.account-iterator ≡ length (into_iter_items l.account-iterator);
  rest : l.yielded ++ into_iter_items l.account-iterator ≡ l.fn.accounts.items;
  seats : l.seats.items ≡ seats_of l.yielded;
  parted : AreParted g.N.RunName.run l.yielded l.receipts.items;
}
