use Rattle.std.proofs.Common.{◌≡◌, [], length, All}
use Rattle.strm_run.proofs.table.empty_rows.Given as goal

-- as many rows as were counted, and nothing in them
abbrev pub invariant-loop : goal.invariant-loop
invariant-loop g l = record {
  many : length l.all.items ≡ l.counter;
  empty : All (λ row. row.items ≡ []) l.all.items;
}
