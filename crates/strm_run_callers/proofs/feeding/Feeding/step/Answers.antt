use Rattle.std.proofs.Common.{◌≡◌, true, None, Some, [], ◌∷◌, ◌++◌, append_assoc, if◌then◌else◌, ap, subst, sym, ◌∙◌}
use Rattle.std.specs.Prelude.{is_some}
use Rattle.strm_shared_ring.specs.StreamRunName.{IsNextOf}
use Rattle.std.specs.Vec.Iter.{into_iter_items}
use Rattle.strm_msg.specs.Message.{Msg}
use Rattle.strm_msg.specs.Kind.{is_from_line}
use Rattle.strm_shared_ring.specs.Feed.{FeedValue}
use Rattle.strm_run_input.specs.Scripts.{feed_of}
use Rattle.strm_run_input.proofs.EachLemmas.{of_others}
use Rattle.strm_run_callers.proofs.PartLemmas.{part_less, part_more}
use Rattle.strm_msg.proofs.LoopLemmas.{rest_shorter}
use Rattle.strm_run_callers.proofs.FeedLemmas.{taken_more, back_more, next_of_feed, offered_more}
use Rattle.strm_run_callers.proofs.feeding.Feeding.step.Goals as goal

pub accepts-requires-clause-next : goal.accepts-requires-clause-next
accepts-requires-clause-next g c =
    let was = c.self.invariant.1 in
    let next = c.in-Some.ensures.items in
    let is : was.offered ++ c.in-Some.m ∷ into_iter_items c.next.new.self ≡ feed_of g.N.RunName.run.feeds c.self.inside.feeder.feed.number = ap (λ l. was.offered ++ l) (sym next) ∙ was.feed in
    subst (λ found. IsNextOf (if is_some found then None else Some (feed_of g.N.RunName.run.feeds c.self.inside.feeder.feed.number)) c.self.inside.feeder.feed.offers c.in-Some.m) (sym was.apart) (next_of_feed _ _ c.in-Some.m _ _ is was.offers)

pub invariant_of-self-then-not-accepts : goal.invariant_of-self-then-not-accepts
invariant_of-self-then-not-accepts g c =
    let was = c.self.invariant.1 in
    let next = c.in-Some.ensures.items in
    let is : was.offered ++ c.in-Some.m ∷ into_iter_items c.next.new.self ≡ feed_of g.N.RunName.run.feeds c.self.inside.feeder.feed.number = ap (λ l. was.offered ++ l) (sym next) ∙ was.feed in
    let same = c.accepts.ensures.none c.if-not-accepts.true in
    let feed : (was.offered ++ c.in-Some.m ∷ []) ++ into_iter_items c.next.new.self ≡ feed_of g.N.RunName.run.feeds c.self.inside.feeder.feed.number = append_assoc was.offered (c.in-Some.m ∷ []) _ ∙ is in (
      rest_shorter _ _ c.in-Some.m _ _ c.self.invariant.0 next c.in-Some.ensures.len,
      record {
        there = rw same was.there;
        apart = rw same was.apart;
        few = rw same was.few;
        kinds = of_others (λ (m : Msg). is_from_line m.kind ≡ true) _ _ _ next was.kinds;
        offered = was.offered ++ c.in-Some.m ∷ [];
        feed = rw same feed;
        offers = ap (λ (f : FeedValue). f.offers) same ∙ offered_more _ _ c.in-Some.m _ _ is was.few was.offers;
        part = rw same (part_less _ _ c.in-Some.m was.part);
        all = rw same (back_more _ _ c.in-Some.m _ was.all);
      },
    )

pub invariant_of-self-else-not-accepts : goal.invariant_of-self-else-not-accepts
invariant_of-self-else-not-accepts g c =
    let was = c.self.invariant.1 in
    let next = c.in-Some.ensures.items in
    let is : was.offered ++ c.in-Some.m ∷ into_iter_items c.next.new.self ≡ feed_of g.N.RunName.run.feeds c.self.inside.feeder.feed.number = ap (λ l. was.offered ++ l) (sym next) ∙ was.feed in
    let more = c.accepts.ensures.accepted c.if-not-accepts.false in
    let feed : (was.offered ++ c.in-Some.m ∷ []) ++ into_iter_items c.next.new.self ≡ feed_of g.N.RunName.run.feeds c.self.inside.feeder.feed.number = append_assoc was.offered (c.in-Some.m ∷ []) _ ∙ is in (
      rest_shorter _ _ c.in-Some.m _ _ c.self.invariant.0 next c.in-Some.ensures.len,
      record {
        there = rw more was.there;
        apart = rw more was.apart;
        few = rw more was.few;
        kinds = of_others (λ (m : Msg). is_from_line m.kind ≡ true) _ _ _ next was.kinds;
        offered = was.offered ++ c.in-Some.m ∷ [];
        feed = rw more feed;
        offers = ap (λ (f : FeedValue). f.offers) more ∙ offered_more _ _ c.in-Some.m _ _ is was.few was.offers;
        part = rw more (part_more _ _ c.in-Some.m was.part);
        all = rw more (taken_more _ _ c.in-Some.m _ was.all);
      },
    )
