use Rattle.std.proofs.Common.{◌≡◌, ◌+◌, ◌∷◌, ◌++◌, append_assoc, ap, arith, sym, ◌∙◌}
use Rattle.std.proofs.lemmas.List.{length-set, length_push, map_push}
use Rattle.std.specs.Vec.Iter.{into_iter_items}
use Rattle.strm_msg.proofs.LoopLemmas.{rest_shorter}
use Rattle.strm_run_callers.specs.Feeding.{FeedingValue}
use Rattle.strm_run_callers.proofs.ReachedLemmas.{behind_more}
use Rattle.strm_run.proofs.FeedsLemmas.{feeding_found, lines_found, lines_none}
use Rattle.strm_run.proofs.feeds.feedings.Goals as goal
use Rattle.strm_run.proofs.feeds.feedings.Goals.{in-Some-feeder+in_ok-push, in_default}

pub new-requires-in-Some-feeder-clause-feed : goal.new-requires-in-Some-feeder-clause-feed
new-requires-in-Some-feeder-clause-feed g c =
    let was = c.loop-feeder.invariant in
    let is : c.loop-feeder.yielded ++ c.in-Some.feeder ∷ into_iter_items c.next.new.self ≡ c.args.feeders.items =
    sym (ap (λ l. c.loop-feeder.yielded ++ l) c.in-Some.ensures.steps.0) ∙ was.rest in
    feeding_found g.N.RunName.run c.args.feeders.items c.loop-feeder.yielded _ c.in-Some.feeder c.loop-feeder.at c.requires.feeders is was.place c.in-Some-feeder.feeder c.in-Some-feeder.is c.args.feeds.items c.loop-feeder.feeds.items c.replace-messages.result c.requires.feeds was.behind (rw c.replace-messages.ensures.value c.index_mut.ensures.value)

pub loop-feeder-preserved : goal.loop-feeder-preserved
loop-feeder-preserved g c =
    let was = c.loop-feeder.invariant in
    let next = c.in-Some.ensures.steps.0 in
    let is : c.loop-feeder.yielded ++ c.in-Some.feeder ∷ into_iter_items c.next.new.self ≡ c.args.feeders.items =
    sym (ap (λ l. c.loop-feeder.yielded ++ l) next) ∙ was.rest in
    elim c.match-feeder.branch [
      | in-Some-feeder+in_ok-push w ↦ record {
        left = rest_shorter _ _ _ _ _ was.left next c.in-Some.ensures.steps.1;
        rest = rw (append_assoc, ← next) was.rest;
        place = ap (λ n. n + 1) was.place ∙ sym (length_push _ _);
        many = rw w.feeds-is (length-set c.loop-feeder.feeds.items c.loop-feeder.at w.replace-messages.new.dest ∙ was.many);
        behind = rw w.feeds-is (behind_more c.args.feeds.items c.loop-feeder.feeds.items c.loop-feeder.at w.replace-messages.new.dest was.behind);
        lines = rw (w.all-is, w.in_ok-push.ensures.items, w.new-in-Some-feeder.ensures) (map_push (λ (f : FeedingValue). f.number) c.loop-feeder.all.items _ ∙ lines_found g.N.RunName.run c.args.feeders.items c.loop-feeder.yielded _ c.in-Some.feeder c.loop-feeder.at c.requires.feeders is was.place w.in-Some-feeder.feeder w.in-Some-feeder.is _ was.lines);
      }
      | in_default w ↦ record {
        left = rest_shorter _ _ _ _ _ was.left next c.in-Some.ensures.steps.1;
        rest = rw (append_assoc, ← next) was.rest;
        place = ap (λ n. n + 1) was.place ∙ sym (length_push _ _);
        many = rw w.feeds-is was.many;
        behind = rw w.feeds-is (λ k d above. was.behind k d (omega arith));
        lines = rw w.all-is (lines_none g.N.RunName.run c.args.feeders.items c.loop-feeder.yielded _ c.in-Some.feeder c.loop-feeder.at c.requires.feeders is was.place _ w.in_default.not-Some was.lines);
      }
    ]
