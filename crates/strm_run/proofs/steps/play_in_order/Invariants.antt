use Rattle.std.proofs.Common.{◌≡◌, map}
use Rattle.strm_run_callers.specs.Steps.{caller_of}
use Rattle.strm_run.proofs.steps.play_in_order.Given as goal

-- no caller is left out, and each stands where it stood
abbrev pub invariant-loop : goal.invariant-loop
invariant-loop g l = map caller_of l.callers.items ≡ l.fn.players.items
