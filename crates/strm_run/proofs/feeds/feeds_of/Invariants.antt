use Rattle.std.proofs.Common.{◌≡◌, ◌++◌, ◌<◌, length, All}
use Rattle.std.specs.Vec.Iter.{into_iter_items, into_iter_len}
use Rattle.strm_run.specs.Inside.Opening.{AreFeeds}
use Rattle.strm_run.proofs.feeds.feeds_of.Given as goal

-- each stream has what the feeds so far have for it
abbrev pub invariant-loop-feed : goal.invariant-loop-feed
invariant-loop-feed l = record {
  left : into_iter_len l.feed-iterator ≡ length (into_iter_items l.feed-iterator);
  rest : l.yielded ++ into_iter_items l.feed-iterator ≡ l.fn.feeds.items;
  there : All (λ feed. feed.stream < l.fn.streams) (into_iter_items l.feed-iterator);
  fed : AreFeeds l.yielded l.fn.streams l.all.items;
}
