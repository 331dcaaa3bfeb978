use Rattle.std.proofs.Common.{◌≡◌, ◌++◌, ◌<◌, length, All}
use Rattle.std.specs.Vec.Iter.{into_iter_items, into_iter_len}
use Rattle.strm_run.specs.Inside.Opening.{AreLeft}
use Rattle.strm_run.proofs.feeds.joints.Given as goal

-- the links so far have their feeders
abbrev pub invariant-loop-link : goal.invariant-loop-link
invariant-loop-link g l = record {
  left : into_iter_len l.link-iterator ≡ length (into_iter_items l.link-iterator);
  rest : l.yielded ++ into_iter_items l.link-iterator ≡ l.fn.links.items;
  there : All (λ link. link.to < length g.N.RunName.run.setups) (into_iter_items l.link-iterator);
  feeders : AreLeft g.N.RunName.run l.yielded l.feeders.items;
}
