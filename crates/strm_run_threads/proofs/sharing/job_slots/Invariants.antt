use Rattle.std.proofs.Common.{◌≡◌, ◌++◌, length, map}
use Rattle.std.specs.Vec.Iter.{into_iter_items, into_iter_len}
use Rattle.strm_run_threads.specs.declared.sharing.JobSlot.TheVariants.{Waiting}
use Rattle.strm_run_threads.proofs.sharing.job_slots.Given as goal

-- the jobs so far are to be done
abbrev pub invariant-loop-job : goal.invariant-loop-job
invariant-loop-job g l = record {
  left : into_iter_len l.job-iterator ≡ length (into_iter_items l.job-iterator);
  rest : l.yielded ++ into_iter_items l.job-iterator ≡ into_iter_items l.initial.job-iterator;
  due : l.turns.items ≡ map Waiting l.yielded;
}
