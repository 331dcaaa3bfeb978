use Rattle.strm_chain_ends.specs.declared.place.Place.{Place}
use Rattle.strm_chain_ends.specs.Flow.{turn_of}
use Rattle.std.proofs.Common.{ap, ◌≡◌, ◌&&◌, ◌+◌, ◌≤◌, ◌∙◌, false, inl, length, sym, arith}
use Rattle.strm_chain_ends.proofs.TurnLemmas.{turns_driver}
use Rattle.strm_chain_ends.specs.declared.place.NextQueue.TheVariants.{Of}
use Rattle.strm_chain_ends.specs.declared.place.Place.TheVariants as Places
use Rattle.strm_chain_ends.specs.Held.{DiffersIn, is_flush, held_by}
use Rattle.strm_chain_ends.proofs.NextLemmas.{ways_of_same}
use Rattle.strm_chain.proofs.CaseLemmas.{on_result, either_not, if_ok}
use Rattle.strm_chain.proofs.EnablingLemmas.{places_same}
use Rattle.strm_chain_ends.proofs.FrameLemmas.{driver_differs, driven_one, same_differs}
use Rattle.strm_module.specs.Driver.{is_wire}
use Rattle.strm_chain_ends.proofs.CalmLemmas.{no_flush}
use Rattle.strm_module.specs.Calm.{options_of}
use Rattle.strm_chain_ends.specs.Count.{answers_options, options_driven}
use Rattle.strm_chain.proofs.CountLemmas.{driver_grows, driver_sets_less, count_put}
use Rattle.strm_chain.proofs.chain.Chain.put_at_driver.Goals as goal

pub invariant_of-self-2 : goal.invariant_of-self-2
invariant_of-self-2 g c =
    let old = c.self.inside.ends.image in
    let new = c.put_at_driver-answer.new.self.image in
    let apart : (is_wire old.driver && is_flush c.args.m.kind) ≡ false = rw (← c.driver.ensures, ← c.deref.ensures, ← c.behind-m.view_is) (sym c.flushes_both-flushes.ensures ∙ c.if-flushes.false) in
    let one = either_not (is_wire old.driver) (is_flush c.args.m.kind) apart in
    let turns : (p : Place) → turn_of g.M.Kind.Kinds.means new p ≡ turn_of g.M.Kind.Kinds.means old p = on_result c.put_at_driver-answer.result _ _ _ c.put_at_driver-answer.ensures.state c.put_at_driver-answer.ensures.err
    (λ e. turns_driver g.M.Kind.Kinds.means old new c.args.end c.args.m e) (λ e p. ap (λ i. turn_of g.M.Kind.Kinds.means i p) e) in
    let differs : DiffersIn old new (Of (Places.Drv c.args.end)) =
    on_result c.put_at_driver-answer.result _ _ _ c.put_at_driver-answer.ensures.state c.put_at_driver-answer.ensures.err
    (λ e. driver_differs old c.args.end new c.args.m one c.put_at_driver-answer.ensures.same e)
    (λ e. same_differs old new (Of (Places.Drv c.args.end)) e) in (
      c.enable_by_change.ensures.ready old c.len-before.ensures c.self.invariant.0 differs (λ p _ _. turns p),
      c.enable_by_change.ensures.places (places_same old new c.self.inside.enabling.run.items (ways_of_same old new differs.same) c.self.invariant.1),
      c.self.invariant.2,
    )

pub returns-clause-grows : goal.returns-clause-grows
returns-clause-grows g c =
    let old = c.self.inside.ends.image in
    let new = c.put_at_driver-answer.new.self.image in
    let queue = Of (Places.Drv c.args.end) in
    rw (← c.self.view_is)
    (if_ok c.put_at_driver-answer.result _ _ _ c.put_at_driver-answer.ensures.state c.put_at_driver-answer.ensures.sends
    (λ sends e sent calm.
    let b = answers_options old.driver in
    let one = no_flush c.args.m.kind calm in
    let alone = e ∙ driven_one old c.args.end c.args.m (inl one) in
    let grow = driver_grows old new c.args.end c.args.m calm alone in
    let was = c.len-before.ensures in
    let put = c.enable_by_change.ensures.put (omega (arith, was, grow)) in
    let less : length c.enable_by_change.new.self.run.items + length (held_by old queue) ≤ length c.self.inside.enabling.run.items + length (held_by new queue) = omega (arith, put, was) in
    count_put old new queue (length c.self.inside.enabling.run.items) (length c.enable_by_change.new.self.run.items) (options_of b c.args.m) (options_driven b sends) (driver_differs old c.args.end new c.args.m (inl one) c.put_at_driver-answer.ensures.same e) less (driver_sets_less old new c.args.end c.args.m sends calm alone sent)))

pub returns-clause-state : goal.returns-clause-state
returns-clause-state g c = rw (← c.self.view_is) c.put_at_driver-answer.ensures.state

pub returns-clause-sends : goal.returns-clause-sends
returns-clause-sends g c = rw (← c.self.view_is) c.put_at_driver-answer.ensures.sends

pub returns-clause-err : goal.returns-clause-err
returns-clause-err g c = rw (← c.self.view_is) c.put_at_driver-answer.ensures.err

pub returns-clause-same : goal.returns-clause-same
returns-clause-same g c = rw (← c.self.view_is) c.put_at_driver-answer.ensures.same

pub returns-clause-given : goal.returns-clause-given
returns-clause-given g c = rw (← c.self.view_is) c.enable_by_change.ensures.given

pub returns-then-flushes-clause-state : goal.returns-then-flushes-clause-state
returns-then-flushes-clause-state g c = rw (← c.self.view_is) c.put_at_driver-answer.ensures.state

pub returns-then-flushes-clause-sends : goal.returns-then-flushes-clause-sends
returns-then-flushes-clause-sends g c = rw (← c.self.view_is) c.put_at_driver-answer.ensures.sends

pub returns-then-flushes-clause-err : goal.returns-then-flushes-clause-err
returns-then-flushes-clause-err g c = rw (← c.self.view_is) c.put_at_driver-answer.ensures.err

pub returns-then-flushes-clause-same : goal.returns-then-flushes-clause-same
returns-then-flushes-clause-same g c = rw (← c.self.view_is) c.put_at_driver-answer.ensures.same

pub returns-then-flushes-clause-given : goal.returns-then-flushes-clause-given
returns-then-flushes-clause-given g c = rw (← c.self.view_is) c.enable_all.ensures.given
