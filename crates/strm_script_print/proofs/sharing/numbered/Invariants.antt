use Rattle.std.proofs.Common.{◌≡◌, ◌++◌, length}
use Rattle.std.specs.Vec.Iter.{into_iter_items, into_iter_len}
use Rattle.strm_script_print.specs.Sharing.{AreNumbered}
use Rattle.strm_script_print.proofs.sharing.numbered.Given as goal

-- the logs so far have their numbers
abbrev pub invariant-loop-log : goal.invariant-loop-log
invariant-loop-log g l = record {
  left : into_iter_len l.log-iterator ≡ length (into_iter_items l.log-iterator);
  rest : l.yielded ++ into_iter_items l.log-iterator ≡ l.fn.logs.items;
  number : l.number ≡ length l.yielded;
  numbered : AreNumbered l.yielded l.all.items;
}
