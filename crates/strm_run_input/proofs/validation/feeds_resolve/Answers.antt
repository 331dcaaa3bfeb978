use Rattle.std.proofs.Common.{◌≡◌, true}
use Rattle.std.specs.Prelude.{slice_get}
use Rattle.strm_run_input.specs.declared.script.Feed.{Feed}
use Rattle.strm_run_input.specs.Resolve.{line_is_there}
use Rattle.strm_run_input.proofs.EachLemmas.{each_more, of_this}
use Rattle.strm_run_input.proofs.validation.feeds_resolve.Goals as goal

pub returns-then-not-line_is_there : goal.returns-then-not-line_is_there
returns-then-not-line_is_there c = (
  (λ is. absurd cc),
  (λ all. absurd (cc (of_this (λ (feed : Feed). line_is_there (slice_get c.args.setups.now feed.stream) ≡ true) c.args.feeds.now c.loop-feed.feed-index c.feed-item.result c.loop-feed-test.true c.feed-item.is all, c.line_is_there.ensures, c.if-not-line_is_there.true))),
)

pub loop-feed-preserved : goal.loop-feed-preserved
loop-feed-preserved c =
    each_more (λ (feed : Feed). line_is_there (slice_get c.args.setups.now feed.stream) ≡ true) c.args.feeds.now c.loop-feed.feed-index c.feed-item.result c.loop-feed-test.true c.feed-item.is c.loop-feed.invariant cc
