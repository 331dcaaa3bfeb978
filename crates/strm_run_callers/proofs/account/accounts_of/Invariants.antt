use Rattle.std.proofs.Common.{◌≡◌, ◌++◌, map}
use Rattle.std.specs.Vec.Iter.{into_iter_items}
use Rattle.strm_run_callers.specs.Account.{fresh_account}
use Rattle.strm_run_callers.proofs.account.accounts_of.Given as goal

-- an account for each seat so far
abbrev pub invariant-loop-seat : goal.invariant-loop-seat
invariant-loop-seat g l = record {
  rest : l.yielded ++ into_iter_items l.seat-iterator ≡ l.fn.seats.items;
  all : l.all.items ≡ map fresh_account l.yielded;
}
