use Rattle.std.proofs.Common.{◌≡◌}
use Rattle.strm_run.specs.Inside.Ending.{AddsCarried}
use Rattle.strm_run.proofs.ending.end_carriers.Given as goal

-- the accounts stay the same, and what was added they have carried
abbrev pub invariant-loop-account : goal.invariant-loop-account
invariant-loop-account g l = record {
  same : l.accounts ≡ l.fn.accounts;
  carried : AddsCarried g.N.RunName.run l.fn.accounts l.initial.carried.items l.carried.items;
}
