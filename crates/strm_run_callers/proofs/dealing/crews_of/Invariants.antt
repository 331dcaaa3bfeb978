use Rattle.std.proofs.Common.{◌≡◌, [], length, All}
use Rattle.strm_run_callers.proofs.dealing.crews_of.Given as goal

-- as many workers as were counted, and nothing for them
abbrev pub invariant-loop : goal.invariant-loop
invariant-loop g l = record {
  many : length l.crews.items ≡ l.counter;
  none : All (λ crew. crew.items ≡ []) l.crews.items;
}
