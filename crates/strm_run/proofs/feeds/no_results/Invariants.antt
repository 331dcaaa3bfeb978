use Rattle.std.proofs.Common.{◌≡◌, None, length, All}
use Rattle.strm_run.proofs.feeds.no_results.Given as goal

-- as many places as were counted, and nothing there
abbrev pub invariant-loop : goal.invariant-loop
invariant-loop g l = record {
  many : length l.all.items ≡ l.counter;
  none : All (λ one. one ≡ None) l.all.items;
}
