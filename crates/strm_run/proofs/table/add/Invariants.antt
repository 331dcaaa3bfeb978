use Rattle.std.proofs.Common.{◌≡◌, ◌++◌, length}
use Rattle.std.specs.Vec.Iter.{into_iter_items, into_iter_len}
use Rattle.strm_run.proofs.TableLemmas.{IsAddedTo}
use Rattle.strm_run.proofs.table.add.Given as goal

-- the rows that were reached have one element more
abbrev pub invariant-loop-x : goal.invariant-loop-x
invariant-loop-x g l = record {
  left : into_iter_len l.x-iterator ≡ length (into_iter_items l.x-iterator);
  rest : l.yielded ++ into_iter_items l.x-iterator ≡ l.fn.column.items;
  place : l.at ≡ length l.yielded;
  added : IsAddedTo l.initial.rows.items l.fn.column.items l.at l.rows.items;
}
