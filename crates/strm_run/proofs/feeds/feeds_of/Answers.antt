use Rattle.std.proofs.Common.{◌≡◌, ◌<◌, ◌∷◌, ◌++◌, append_assoc, ap, sym, ◌∙◌}
use Rattle.std.specs.Vec.Iter.{into_iter_items}
use Rattle.strm_run_input.specs.declared.script.Feed.{Feed}
use Rattle.strm_run_input.proofs.EachLemmas.{of_first, of_others}
use Rattle.strm_msg.proofs.LoopLemmas.{rest_shorter}
use Rattle.strm_run.proofs.FeedsLemmas.{fed_more, none_before}
use Rattle.strm_run.proofs.feeds.feeds_of.Goals as goal

pub loop-feed-preserved : goal.loop-feed-preserved
loop-feed-preserved c =
    let was = c.loop-feed.invariant in
    let next = c.in-Some.ensures.steps.0 in
    let is : c.loop-feed.yielded ++ c.in-Some.feed ∷ into_iter_items c.next.new.self ≡ c.args.feeds.items = sym (ap (λ l. c.loop-feed.yielded ++ l) next) ∙ was.rest in
    let there = of_first (λ (feed : Feed). feed.stream < c.args.streams) _ _ _ next was.there in
    record {
      left = rest_shorter _ _ _ _ _ was.left next c.in-Some.ensures.steps.1;
      rest = rw (append_assoc, ← next) was.rest;
      there = of_others (λ (feed : Feed). feed.stream < c.args.streams) _ _ _ next was.there;
      fed = fed_more c.loop-feed.yielded c.in-Some.feed c.args.streams c.loop-feed.all.items was.fed there (none_before _ _ _ c.in-Some.feed is c.requires.once);
    }
