use Rattle.std.proofs.Common.{◌≡◌, ◌++◌, length, map}
use Rattle.std.specs.Vec.Iter.{into_iter_items, into_iter_len}
use Rattle.strm_run_callers.specs.Steps.{caller_of}
use Rattle.strm_run.proofs.steps.begun.Given as goal

-- the callers so far are there
abbrev pub invariant-loop-player : goal.invariant-loop-player
invariant-loop-player g l = record {
  left : into_iter_len l.player-iterator ≡ length (into_iter_items l.player-iterator);
  rest : l.yielded ++ into_iter_items l.player-iterator ≡ l.fn.players.items;
  begun : map caller_of l.callers.items ≡ l.yielded;
}
