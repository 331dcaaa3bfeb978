use Rattle.std.proofs.Common.{◌≡◌, ◌++◌, Ok, length, map}
use Rattle.std.specs.Vec.Iter.{into_iter_items, into_iter_len}
use Rattle.strm_script_parse.proofs.section.all_read.Given as goal

-- each so far was read
abbrev pub invariant-loop-one : goal.invariant-loop-one
invariant-loop-one g l = record {
  left : into_iter_len l.one-iterator ≡ length (into_iter_items l.one-iterator);
  rest : l.yielded ++ into_iter_items l.one-iterator ≡ l.fn.read.items;
  made : map Ok l.all.items ≡ l.yielded;
}
