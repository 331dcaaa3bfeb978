use Rattle.std.proofs.Common.{◌≡◌, ◌++◌, length, map}
use Rattle.std.specs.Vec.Iter.{into_iter_items, into_iter_len}
use Rattle.strm_script_parse.specs.RunInput.{calls_of_processes, names_of, replies_of, replies_view}
use Rattle.strm_script_parse.proofs.run_input.parts_of.Given as goal

-- the names, the scripts and the expected replies so far are those of the processes
abbrev pub invariant-loop-process : goal.invariant-loop-process
invariant-loop-process g l = record {
  left : into_iter_len l.process-iterator ≡ length (into_iter_items l.process-iterator);
  rest : l.yielded ++ into_iter_items l.process-iterator ≡ l.fn.processes.items;
  names : l.names.items ≡ names_of l.yielded;
  calls : l.scripts.items ≡ calls_of_processes l.yielded;
  expected : map replies_view l.all.items ≡ map replies_of l.yielded;
}
