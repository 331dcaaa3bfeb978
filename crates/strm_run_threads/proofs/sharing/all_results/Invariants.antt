use Rattle.std.proofs.Common.{◌≡◌, ◌++◌, length, map, All, vec_capacity}
use Rattle.std.specs.Vec.Iter.{into_iter_items, into_iter_len}
use Rattle.strm_run_threads.specs.JobSlots.{IsDone}
use Rattle.strm_run_threads.specs.declared.sharing.JobSlot.TheVariants.{Done}
use Rattle.strm_run_threads.proofs.sharing.all_results.Given as goal

-- what is left of the jobs so far
abbrev pub invariant-loop-turn : goal.invariant-loop-turn
invariant-loop-turn g l = record {
  left : into_iter_len l.turn-iterator ≡ length (into_iter_items l.turn-iterator);
  rest : l.yielded ++ into_iter_items l.turn-iterator ≡ into_iter_items l.initial.turn-iterator;
  done : All IsDone (into_iter_items l.turn-iterator);
  all_results : map Done l.all.items ≡ l.yielded;
  room : vec_capacity l.all ≡ vec_capacity l.initial.all;
}
