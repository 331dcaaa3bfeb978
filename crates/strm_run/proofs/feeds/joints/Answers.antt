use Rattle.std.proofs.Common.{◌≡◌, ◌<◌, [], ◌∷◌, ◌++◌, append_assoc, length, ap, subst, sym, ◌∙◌}
use Rattle.std.specs.Vec.Iter.{into_iter_items}
use Rattle.strm_msg.proofs.LoopLemmas.{rest_shorter}
use Rattle.strm_run_input.specs.declared.run_link.RunLink.{RunLink}
use Rattle.strm_run_input.proofs.EachLemmas.{of_first, of_others}
use Rattle.strm_run.specs.Inside.Opening.{AreLeft}
use Rattle.strm_run.proofs.RunLemmas.{any_setup}
use Rattle.strm_run.proofs.LinkLemmas.{can_join, left_more}
use Rattle.strm_run.proofs.feeds.joints.Goals as goal

pub take_feeder-requires : goal.take_feeder-requires
take_feeder-requires g c =
    let was = c.loop-link.invariant in
    let there = of_first (λ (link : RunLink). link.to < length g.N.RunName.run.setups) _ _ _ c.in-Some.ensures.steps.0 was.there in
    subst (λ n. c.in-Some.link.to < n) (sym was.feeders.many) there

pub new-requires : goal.new-requires
new-requires g c =
    let was = c.loop-link.invariant in
    let next = c.in-Some.ensures.steps.0 in
    let is : c.loop-link.yielded ++ c.in-Some.link ∷ into_iter_items c.next.new.self ≡ c.args.links.items = sym (ap (λ l. c.loop-link.yielded ++ l) next) ∙ was.rest in
    let there = of_first (λ (link : RunLink). link.to < length g.N.RunName.run.setups) _ _ _ next was.there in
    can_join g.N.RunName.run c.args.links.items c.loop-link.yielded _ c.in-Some.link c.loop-link.feeders.items c.in-Some-take_feeder.feeder any_setup c.requires.links is c.requires.apart was.feeders there (sym c.take_feeder.ensures.feeder ∙ c.in-Some-take_feeder.is)

pub loop-link-preserved-in_ok-push : goal.loop-link-preserved-in_ok-push
loop-link-preserved-in_ok-push g c =
    let was = c.loop-link.invariant in
    let next = c.in-Some.ensures.steps.0 in
    let there = of_first (λ (link : RunLink). link.to < length g.N.RunName.run.setups) _ _ _ next was.there in
    record {
      left = rest_shorter _ _ _ _ _ was.left next c.in-Some.ensures.steps.1;
      rest = rw (append_assoc, ← next) was.rest;
      there = of_others (λ (link : RunLink). link.to < length g.N.RunName.run.setups) _ _ _ next was.there;
      feeders = subst (λ l. AreLeft g.N.RunName.run (c.loop-link.yielded ++ c.in-Some.link ∷ []) l) (sym c.take_feeder.ensures.others) (left_more g.N.RunName.run c.loop-link.yielded c.loop-link.feeders.items c.in-Some.link was.feeders there);
    }

pub loop-link-preserved : goal.loop-link-preserved
loop-link-preserved g c =
    let was = c.loop-link.invariant in
    let next = c.in-Some.ensures.steps.0 in
    let there = of_first (λ (link : RunLink). link.to < length g.N.RunName.run.setups) _ _ _ next was.there in
    record {
      left = rest_shorter _ _ _ _ _ was.left next c.in-Some.ensures.steps.1;
      rest = rw (append_assoc, ← next) was.rest;
      there = of_others (λ (link : RunLink). link.to < length g.N.RunName.run.setups) _ _ _ next was.there;
      feeders = subst (λ l. AreLeft g.N.RunName.run (c.loop-link.yielded ++ c.in-Some.link ∷ []) l) (sym c.take_feeder.ensures.others) (left_more g.N.RunName.run c.loop-link.yielded c.loop-link.feeders.items c.in-Some.link was.feeders there);
    }
