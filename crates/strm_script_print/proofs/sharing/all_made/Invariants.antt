use Rattle.std.proofs.Common.{◌≡◌, ◌++◌, Ok, length, map}
use Rattle.std.specs.Vec.Iter.{into_iter_items, into_iter_len}
use Rattle.strm_script_print.proofs.sharing.all_made.Given as goal

-- each so far was made
abbrev pub invariant-loop-one : goal.invariant-loop-one
invariant-loop-one g l = record {
  left : into_iter_len l.one-iterator ≡ length (into_iter_items l.one-iterator);
  rest : l.yielded ++ into_iter_items l.one-iterator ≡ l.fn.made.items;
  made : map Ok l.all.items ≡ map (λ one. one.0) l.yielded;
  again : l.again.items ≡ map (λ one. one.1) l.yielded;
}
