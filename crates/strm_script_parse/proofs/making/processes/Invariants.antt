use Rattle.std.proofs.Common.{◌≡◌, ◌++◌, length}
use Rattle.std.specs.Vec.Iter.{into_iter_items, into_iter_len}
use Rattle.strm_script_parse.proofs.making.processes.Given as goal

-- the processes so far are those that were declared
abbrev pub invariant-loop-process : goal.invariant-loop-process
invariant-loop-process g l = record {
  left : into_iter_len l.process-iterator ≡ length (into_iter_items l.process-iterator);
  rest : l.yielded ++ into_iter_items l.process-iterator ≡ l.fn.declared.items;
  made : l.made.items ≡ l.yielded;
}
