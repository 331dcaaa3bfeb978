use Rattle.std.proofs.Common.{◌≡◌, true, [], ◌∷◌, ◌++◌, append-nil, append_assoc, length, All, arith, ap, sym, subst, refl, ◌∙◌}
use Rattle.std.proofs.lemmas.List.{length-append, length_push}
use Rattle.strm_msg.specs.Message.{Msg}
use Rattle.strm_msg.specs.Kind.{is_from_line}
use Rattle.strm_run_input.proofs.EachLemmas.{of_others}
use Rattle.strm_run_callers.specs.Carrying.{Offers}
use Rattle.strm_run_callers.proofs.CarryLemmas.{no_offer, offer_more}
use Rattle.strm_run_callers.proofs.carrier.Carrier.offer_all.Goals as goal

pub loop-m-init : goal.loop-m-init
loop-m-init g c = record {
  rest = c.into_iter-m-iterator.ensures.into_iter_gives.0;
  lines = subst (λ l. All (λ (m : Msg). is_from_line m.kind ≡ true) l) (sym c.into_iter-m-iterator.ensures.into_iter_gives.0) c.requires.lines;
  link = refl;
  offered = no_offer c.args.self.now;
  few = omega arith;
}

pub offer-requires-clause-few : goal.offer-requires-clause-few
offer-requires-clause-few g c =
    let was = c.loop-m.invariant in
    let all =
    ap (λ l. length l) (sym was.rest) ∙ ap (λ l. length (c.loop-m.yielded ++ l)) c.in-Some.ensures.steps ∙ length-append c.loop-m.yielded (c.in-Some.m ∷ c.next.new.self) in
    omega (arith, all, c.requires.few, was.few)

pub loop-m-preserved : goal.loop-m-preserved
loop-m-preserved g c =
    let was = c.loop-m.invariant in
    let next = c.in-Some.ensures.steps in
    record {
      rest = append_assoc c.loop-m.yielded (c.in-Some.m ∷ []) c.next.new.self ∙ ap (λ l. c.loop-m.yielded ++ l) (sym next) ∙ was.rest;
      lines = of_others (λ (m : Msg). is_from_line m.kind ≡ true) _ _ _ next was.lines;
      link = c.offer.ensures.link ∙ was.link;
      offered = offer_more _ _ _ c.loop-m.yielded (c.in-Some.m ∷ []) was.offered c.offer.ensures.offered;
      few = let more = c.offer.ensures.few in let so_far = was.few in omega (arith, length_push c.loop-m.yielded c.in-Some.m);
    }

pub returns-clause-link : goal.returns-clause-link
returns-clause-link g c = c.loop-m.invariant.link

pub returns-clause-offered : goal.returns-clause-offered
returns-clause-offered g c =
    let was = c.loop-m.invariant in
    let whole : c.loop-m.yielded ≡ c.args.messages.items = sym (append-nil c.loop-m.yielded) ∙ ap (λ l. c.loop-m.yielded ++ l) (sym c.in-None.ensures.steps.0) ∙ was.rest in
    subst (λ l. Offers c.args.self.now l c.loop-m.self) whole was.offered
