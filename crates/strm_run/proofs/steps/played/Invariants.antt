use Rattle.std.proofs.Common.{◌≡◌, ◌++◌, length, map}
use Rattle.std.specs.Vec.Iter.{into_iter_items, into_iter_len}
use Rattle.strm_run_callers.specs.Steps.{caller_of}
use Rattle.strm_run.proofs.steps.played.Given as goal

-- the callers so far have played their scripts
abbrev pub invariant-loop-caller : goal.invariant-loop-caller
invariant-loop-caller g l = record {
  left : into_iter_len l.caller-iterator ≡ length (into_iter_items l.caller-iterator);
  rest : l.yielded ++ into_iter_items l.caller-iterator ≡ l.fn.callers.items;
  played : l.all.items ≡ map caller_of l.yielded;
}
