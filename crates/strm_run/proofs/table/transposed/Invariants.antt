use Rattle.std.proofs.Common.{◌≡◌, ◌++◌, length, All}
use Rattle.std.specs.Vec.Iter.{into_iter_items, into_iter_len}
use Rattle.strm_run.specs.Inside.Table.{IsTransposed}
use Rattle.strm_run.proofs.table.transposed.Given as goal

-- the rows are those of the columns so far
abbrev pub invariant-loop-column : goal.invariant-loop-column
invariant-loop-column g l = record {
  left : into_iter_len l.column-iterator ≡ length (into_iter_items l.column-iterator);
  rest : l.yielded ++ into_iter_items l.column-iterator ≡ l.fn.columns.items;
  high : All (λ column. length column.items ≡ l.fn.rows) (into_iter_items l.column-iterator);
  rows : IsTransposed l.yielded l.fn.rows l.all.items;
}
