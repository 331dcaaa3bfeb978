use Rattle.std.proofs.Common.{All}
use Rattle.strm_run.specs.Inside.Ending.{HaveSameItems, IsOfAccounts}
use Rattle.strm_run.proofs.ending.end_all_carriers.Given as goal

-- the accounts stay the same, and what was added they have carried
abbrev pub invariant-loop-row : goal.invariant-loop-row
invariant-loop-row g l = record {
  same : HaveSameItems l.fn.rows l.rows;
  carried : All (λ ended. IsOfAccounts g.N.RunName.run l.fn.rows ended) l.carried.items;
}
