use Rattle.std.proofs.Common.{◌≡◌, ◌<◌, ◌∷◌, ◌++◌, Option, inl, inr, All, append_assoc, length, ap, subst, sym, ◌∙◌}
use Rattle.std.proofs.lemmas.List.{length-set}
use Rattle.std.specs.Vec.Iter.{into_iter_items}
use Rattle.strm_msg.proofs.LoopLemmas.{rest_shorter}
use Rattle.strm_run_input.proofs.EachLemmas.{of_others}
use Rattle.strm_run_callers.specs.Feeding.{FeedResultValue, HasOffered}
use Rattle.strm_run.specs.Inside.Ending.{IsResult}
use Rattle.strm_run.proofs.EndingLemmas.{all_set, one_of}
use Rattle.strm_run.proofs.feeds.results_by_number.Goals as goal

pub loop-one-preserved : goal.loop-one-preserved
loop-one-preserved g c =
    let was = c.loop-one.invariant in
    record {
      many = ap (λ l. length l) c.put_result.ensures ∙ length-set c.loop-one.all.items _ _ ∙ was.many;
      results = subst (λ l. All (λ (one : Option FeedResultValue). IsResult g.N.RunName.run c.args.carried.items one) l) (sym c.put_result.ensures) (all_set (λ (one : Option FeedResultValue). IsResult g.N.RunName.run c.args.carried.items one) c.loop-one.all.items _ _ was.results (inl (subst (λ (r : FeedResultValue). HasOffered g.N.RunName.run r.feed r.overrun) (sym c.into_result.ensures.same) c.into_result.ensures.offered)));
    }

pub loop-ended-preserved : goal.loop-ended-preserved
loop-ended-preserved g c =
    let was = c.loop-ended.invariant in
    let next = c.in-Some-ended.ensures.steps.0 in
    let is : c.loop-ended.yielded ++ c.in-Some-ended.ended ∷ into_iter_items c.next-in-loop-ended.new.self ≡ c.args.carried.items = sym (ap (λ l. c.loop-ended.yielded ++ l) next) ∙ was.rest in
    record {
      left = rest_shorter _ _ _ _ _ was.left next c.in-Some-ended.ensures.steps.1;
      rest = rw (append_assoc, ← next) was.rest;
      there = of_others (λ (ended : FeedResultValue). ended.feed.number < c.args.streams) _ _ _ next was.there;
      many = ap (λ l. length l) c.put_result-in-loop-ended.ensures ∙ length-set c.loop-ended.all.items _ _ ∙ was.many;
      results = subst (λ l. All (λ (one : Option FeedResultValue). IsResult g.N.RunName.run c.args.carried.items one) l) (sym c.put_result-in-loop-ended.ensures) (all_set (λ (one : Option FeedResultValue). IsResult g.N.RunName.run c.args.carried.items one) c.loop-ended.all.items _ _ was.results (inr (one_of c.args.carried.items c.loop-ended.yielded _ c.in-Some-ended.ended is)));
    }
