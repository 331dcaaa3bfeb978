use Rattle.std.proofs.Common.{◌≡◌, ◌++◌, Ok, All, IfErr, length, map}
use Rattle.std.specs.Vec.Iter.{into_iter_items, into_iter_len}
use Rattle.strm_run.specs.Inside.Ending.{IsLate}
use Rattle.strm_run.proofs.ending.all_logs.Given as goal

-- each stream so far has ended
abbrev pub invariant-loop-one : goal.invariant-loop-one
invariant-loop-one g l = record {
  left : into_iter_len l.one-iterator ≡ length (into_iter_items l.one-iterator);
  rest : l.yielded ++ into_iter_items l.one-iterator ≡ l.fn.ended.items;
  late : All (λ one. IfErr one (λ fault. IsLate fault)) (into_iter_items l.one-iterator);
  logs : map Ok l.all.items ≡ l.yielded;
}
