use Rattle.std.proofs.Common.{◌≡◌, ◌+◌, get_or, sym, ◌∙◌}
use Rattle.std.proofs.lemmas.List.{get_or_read, take_rest}
use Rattle.strm_run_input.specs.declared.script.Feed.{Feed}
use Rattle.strm_run_input.proofs.OnceLemmas.{pairs_more, pairs_this}
use Rattle.strm_run_input.proofs.validation.have_one_feed_each.Goals as goal

abbrev Apart : Feed → Feed → Type 0
Apart one other = one.stream ≡ other.stream → ⊥

pub returns-then-not-has_no_feed : goal.returns-then-not-has_no_feed
returns-then-not-has_no_feed c =
    let first = rw (take_rest c.args.feeds.now (c.loop-i.i + 1)) at c.has_no_feed.ensures in (
      (λ is. absurd cc),
      (λ once. absurd (cc (first.1 (pairs_this Apart c.args.feeds.now c.loop-i.i (get_or c.args.feeds.now c.loop-i.i c.index-feeds-i.result) (λ d. sym c.index-feeds-i.is ∙ get_or_read c.args.feeds.now c.loop-i.i c.index-feeds-i.result c.loop-i-test.true c.index-feeds-i.is d) once), c.if-not-has_no_feed.true))),
    )

pub loop-i-preserved : goal.loop-i-preserved
loop-i-preserved c =
    let first = rw (take_rest c.args.feeds.now (c.loop-i.i + 1)) at c.has_no_feed.ensures in
    pairs_more Apart c.args.feeds.now c.loop-i.i (get_or c.args.feeds.now c.loop-i.i c.index-feeds-i.result) (λ d. sym c.index-feeds-i.is ∙ get_or_read c.args.feeds.now c.loop-i.i c.index-feeds-i.result c.loop-i-test.true c.index-feeds-i.is d) (first.0 c.if-not-has_no_feed.false) c.loop-i.invariant
