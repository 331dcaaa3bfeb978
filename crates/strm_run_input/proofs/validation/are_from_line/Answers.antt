use Rattle.strm_run_input.specs.declared.script.Feed.{Feed}
use Rattle.strm_run_input.specs.Resolve.{IsFromLine}
use Rattle.strm_run_input.proofs.EachLemmas.{each_more, of_this}
use Rattle.strm_run_input.proofs.validation.are_from_line.Goals as goal

pub returns-then-not-is_from_line : goal.returns-then-not-is_from_line
returns-then-not-is_from_line c = (
  (λ is. absurd cc),
  (λ all. absurd (cc (c.is_from_line.ensures.1 (of_this (λ (feed : Feed). IsFromLine feed) c.args.feeds.now c.loop-feed.feed-index c.feed-item.result c.loop-feed-test.true c.feed-item.is all), c.if-not-is_from_line.true))),
)

pub loop-feed-preserved : goal.loop-feed-preserved
loop-feed-preserved c =
    each_more (λ (feed : Feed). IsFromLine feed) c.args.feeds.now c.loop-feed.feed-index c.feed-item.result c.loop-feed-test.true c.feed-item.is c.loop-feed.invariant (c.is_from_line.ensures.0 c.if-not-is_from_line.false)
