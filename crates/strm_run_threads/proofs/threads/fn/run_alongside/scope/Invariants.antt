use Rattle.std.proofs.Common.{◌≡◌, ◌++◌, false, length, IfOk}
use Rattle.std.specs.Vec.Iter.{into_iter_items, into_iter_len}
use Rattle.strm_run_threads.proofs.threads.fn.run_alongside.scope.Given as goal

-- there are as many handles as threads were started
abbrev pub invariant-loop-one : goal.invariant-loop-one
invariant-loop-one g l = record {
  left : into_iter_len l.one-iterator ≡ length (into_iter_items l.one-iterator);
  rest : l.yielded ++ into_iter_items l.one-iterator ≡ into_iter_items l.initial.one-iterator;
  many : length l.handles.items ≡ length l.yielded;
  short : l.is_short ≡ false;
}

-- and of as many something is left as were waited for, unless memory was wanting
abbrev pub invariant-loop-handle : goal.invariant-loop-handle
invariant-loop-handle g l = record {
  left : into_iter_len l.handle-iterator ≡ length (into_iter_items l.handle-iterator);
  rest : l.yielded ++ into_iter_items l.handle-iterator ≡ into_iter_items l.initial.handle-iterator;
  many : IfOk l.left (λ all. length all.items ≡ length l.yielded);
}
