use Rattle.std.proofs.Common.{◌≡◌, ◌++◌, ◌<◌, length, All}
use Rattle.std.specs.Vec.Iter.{into_iter_items, into_iter_len}
use Rattle.strm_run.specs.Inside.Ending.{IsResult}
use Rattle.strm_run.proofs.feeds.results_by_number.Given as goal

-- as many places as streams, and what stands there is a result
abbrev pub invariant-loop-one : goal.invariant-loop-one
invariant-loop-one g l = record {
  many : length l.all.items ≡ l.fn.streams;
  results : All (λ one. IsResult g.N.RunName.run l.fn.carried.items one) l.all.items;
}

abbrev pub invariant-loop-ended : goal.invariant-loop-ended
invariant-loop-ended g l = record {
  left : into_iter_len l.ended-iterator ≡ length (into_iter_items l.ended-iterator);
  rest : l.yielded ++ into_iter_items l.ended-iterator ≡ l.fn.carried.items;
  there : All (λ ended. ended.feed.number < l.fn.streams) (into_iter_items l.ended-iterator);
  many : length l.all.items ≡ l.fn.streams;
  results : All (λ one. IsResult g.N.RunName.run l.fn.carried.items one) l.all.items;
}
