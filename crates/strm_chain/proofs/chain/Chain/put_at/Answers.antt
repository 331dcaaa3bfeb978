use Rattle.strm_chain_ends.proofs.TurnLemmas.{turns_gets, gets_steady}
use Rattle.strm_chain_ends.specs.declared.place.Place.{Place}
use Rattle.strm_chain_ends.specs.declared.place.Place.TheVariants as Places
use Rattle.strm_chain_ends.specs.Flow.{turn_of}
use Rattle.strm_msg.specs.declared.words.Side.TheVariants.{Rd, Wr}
use Rattle.std.proofs.Common.{◌≢◌, ◌≡◌, ◌∙◌, false, ◌+◌, ◌≤◌, length, arith, refl, sym, ap}
use Rattle.strm_chain_ends.specs.declared.place.NextQueue.TheVariants.{Of}
use Rattle.strm_chain_ends.specs.Held.{DiffersIn, is_flush, module_place, held_by}
use Rattle.strm_chain_ends.proofs.NextLemmas.{ways_of_same}
use Rattle.strm_chain.proofs.CaseLemmas.{on_result, if_ok}
use Rattle.strm_chain.proofs.EnablingLemmas.{places_same}
use Rattle.strm_chain_ends.proofs.FrameLemmas.{gets_differs, same_differs}
use Rattle.strm_module.specs.Calm.{options_of, options_sent}
use Rattle.strm_chain_ends.specs.Count.{answers_options}
use Rattle.strm_chain.proofs.CountLemmas.{gets_grows, gets_sets_less, count_put}
use Rattle.strm_chain.specs.Deliver.{ModuleStep}
use Rattle.strm_chain.proofs.HopLemmas.{gets_nowhere}
use Rattle.strm_chain_end.specs.End.{end_gets}
use Rattle.strm_chain_ends.specs.Image.{with_end}
use Rattle.strm_chain_ends.proofs.LentLemmas.{lent_ok, lent_err, lent_same}
use Rattle.strm_chain.proofs.chain.Chain.put_at.Goals as goal

pub invariant_of-self-2 : goal.invariant_of-self-2
invariant_of-self-2 g c =
    let old = c.self.inside.ends.image in
    let lent = c.end_mut.result.now.state in
    let left = c.put_at-answer.new.self.state in
    let new = with_end old c.args.end left in
    let state = lent_ok c.put_at-answer.result old c.args.end lent left (λ s. (end_gets g.M.Kind.Kinds.means s c.args.i c.args.side c.args.m).state) c.end_mut.ensures.state c.put_at-answer.ensures.state in
    let err = lent_err c.put_at-answer.result old c.args.end lent left c.end_mut.ensures.state c.put_at-answer.ensures.err in
    let same = lent_same old c.args.end lent left c.end_mut.ensures.state c.put_at-answer.ensures.same in
    let calm : is_flush c.args.m.kind ≡ false = rw (← c.deref.ensures, ← c.behind-m.view_is) (sym c.is_flush-flushes.ensures ∙ c.if-flushes.false) in
    let elsewhere : (p : Place) → p ≢ Places.Wr c.args.end c.args.i → p ≢ Places.Rd c.args.end c.args.i → turn_of g.M.Kind.Kinds.means new p ≡ turn_of g.M.Kind.Kinds.means old p =
    on_result c.put_at-answer.result _ _ _ state err
    (λ e. turns_gets g.M.Kind.Kinds.means old new c.args.end c.args.i c.args.side c.args.m e)
    (λ e p w r. ap (λ x. turn_of g.M.Kind.Kinds.means x p) e) in
    let differs : DiffersIn old new c.in-Some.queue =
    rw c.in-Some.ensures.some
    (on_result c.put_at-answer.result _ _ _ state err
    (λ e. gets_differs g.M.Kind.Kinds.means old c.args.end new c.args.i c.args.side c.args.m same calm e)
    (λ e. same_differs old new (Of (module_place c.args.side c.args.end c.args.i)) e)) in (
      c.enable_by_change.ensures.ready old c.len-before.ensures (c.enable_by_turns.ensures.ready old c.self.invariant.0) differs
          (c.enable_by_turns.ensures.known old (sym c.turns-turns.ensures.wr) (sym c.turns-turns.ensures.rd) elsewhere),
      c.enable_by_change.ensures.places (c.enable_by_turns.ensures.places (places_same old new c.self.inside.enabling.run.items (ways_of_same old new differs.same) c.self.invariant.1)),
      c.self.invariant.2,
    )

pub returns-clause-grows : goal.returns-clause-grows
returns-clause-grows g c =
    let old = c.self.inside.ends.image in
    let lent = c.end_mut.result.now.state in
    let left = c.put_at-answer.new.self.state in
    let new = with_end old c.args.end left in
    let state = lent_ok c.put_at-answer.result old c.args.end lent left (λ s. (end_gets g.M.Kind.Kinds.means s c.args.i c.args.side c.args.m).state) c.end_mut.ensures.state c.put_at-answer.ensures.state in
    let err = lent_err c.put_at-answer.result old c.args.end lent left c.end_mut.ensures.state c.put_at-answer.ensures.err in
    let same = lent_same old c.args.end lent left c.end_mut.ensures.state c.put_at-answer.ensures.same in
    let calm_kind : is_flush c.args.m.kind ≡ false = rw (← c.deref.ensures, ← c.behind-m.view_is) (sym c.is_flush-flushes.ensures ∙ c.if-flushes.false) in
    let queue = Of (module_place c.args.side c.args.end c.args.i) in
    let is = c.in-Some.ensures.some in
    rw (← c.self.view_is)
    (if_ok c.put_at-answer.result _ _ _ state c.put_at-answer.ensures.outs
    (λ outs e sent kinds calm.
    let b = answers_options old.driver in
    let grow = gets_grows g.M.Kind.Kinds.means old new c.args.end c.args.i c.args.side c.args.m kinds calm e in
    let was : c.len-before.result ≡ length (held_by old queue) = c.len-before.ensures ∙ ap (λ q. length (held_by old q)) is in
    let now : length (held_by new c.in-Some.queue) ≡ length (held_by new queue) = ap (λ q. length (held_by new q)) is in
    let put = c.enable_by_change.ensures.put (omega (arith, was, now, grow)) in
    let still = ap length (c.enable_by_turns.ensures.steady (gets_steady g.M.Kind.Kinds.means kinds old new c.args.end c.args.i c.args.side Wr c.args.m e ∙ sym c.turns-turns.ensures.wr) (gets_steady g.M.Kind.Kinds.means kinds old new c.args.end c.args.i c.args.side Rd c.args.m e ∙ sym c.turns-turns.ensures.rd)) in
    let less : length c.enable_by_change.new.self.run.items + length (held_by old queue) ≤ length c.self.inside.enabling.run.items + length (held_by new queue) = omega (arith, put, was, now, still) in
    count_put old new queue (length c.self.inside.enabling.run.items) (length c.enable_by_change.new.self.run.items) (options_of b c.args.m) (options_sent b outs.items) (gets_differs g.M.Kind.Kinds.means old c.args.end new c.args.i c.args.side c.args.m same calm_kind e) less (gets_sets_less g.M.Kind.Kinds.means b old new c.args.end c.args.i c.args.side c.args.m outs.items kinds calm e (sent ∙ ap (λ s. (end_gets g.M.Kind.Kinds.means s c.args.i c.args.side c.args.m).outs) c.end_mut.ensures.state))))

pub returns-clause-given : goal.returns-clause-given
returns-clause-given g c = rw (← c.self.view_is) (c.enable_by_change.ensures.given ∙ c.enable_by_turns.ensures.given)

pub returns-in_default-clause-image : goal.returns-in_default-clause-image
returns-in_default-clause-image g c =
    sym (ap (λ (p : ModuleStep _). p.image) (gets_nowhere g.M.Kind.Kinds.means c.args.self.now.image c.args.end c.args.i c.args.side c.args.m c.in_default.ensures.none))

pub returns-in_default-clause-outs : goal.returns-in_default-clause-outs
returns-in_default-clause-outs g c =
    rw c.new.ensures (sym (ap (λ (p : ModuleStep _). p.outs) (gets_nowhere g.M.Kind.Kinds.means c.args.self.now.image c.args.end c.args.i c.args.side c.args.m c.in_default.ensures.none)))

pub returns-in_default-clause-err : goal.returns-in_default-clause-err
returns-in_default-clause-err g c = tt

pub returns-in_default-clause-given : goal.returns-in_default-clause-given
returns-in_default-clause-given g c = refl
