use Rattle.strm_chain_ends.specs.declared.place.Place.{Place}
use Rattle.strm_chain_ends.specs.Flow.{turn_of}
use Rattle.strm_chain_ends.specs.Image.{end_of}
use Rattle.strm_chain_end.specs.End.{in_drv}
use Rattle.std.proofs.Common.{◌∙◌, ◌≡◌, length, refl, ap, arith}
use Rattle.strm_chain_ends.proofs.TurnLemmas.{turns_with}
use Rattle.strm_chain_ends.specs.declared.place.NextQueue.TheVariants.{Of}
use Rattle.strm_chain_ends.specs.declared.place.Place.TheVariants as Places
use Rattle.strm_chain_ends.specs.Held.{held_by, DiffersIn}
use Rattle.strm_chain_ends.proofs.NextLemmas.{ways_of_same}
use Rattle.strm_module.specs.Calm.{options_of, options_held}
use Rattle.strm_chain_ends.specs.Count.{answers_options}
use Rattle.strm_chain.proofs.CaseLemmas.{on_option, if_some, if_none}
use Rattle.strm_chain.proofs.CountLemmas.{drv_served, drv_sets_less, count_take}
use Rattle.strm_chain.proofs.EnablingLemmas.{places_same}
use Rattle.strm_chain_ends.proofs.FrameLemmas.{take_driver_differs, same_differs}
use Rattle.strm_chain_ends.specs.Image.{with_end}
use Rattle.strm_chain_ends.proofs.LentLemmas.{lent_taken, lent_empty, lent_same}
use Rattle.strm_chain.proofs.chain.Chain.take_driver.Goals as goal

pub invariant_of-self : goal.invariant_of-self
invariant_of-self g c =
    let old = c.self.inside.ends.image in
    let lent = c.end_mut.result.now.state in
    let left = c.take_driver-first.new.self.state in
    let new = with_end old c.args.end left in
    let some = lent_taken c.take_driver-first.result old c.args.end lent left c.end_mut.ensures.state c.take_driver-first.ensures.some in
    let none = lent_empty c.take_driver-first.result old c.args.end lent left c.end_mut.ensures.state c.take_driver-first.ensures.none in
    let same = lent_same old c.args.end lent left c.end_mut.ensures.state c.take_driver-first.ensures.same in
    let turns : (p : Place) → turn_of g.M.Kind.Kinds.means new p ≡ turn_of g.M.Kind.Kinds.means old p = on_option c.take_driver-first.result _ _ _ some none
    (λ m e p. ap (λ i. turn_of g.M.Kind.Kinds.means i p) e.1 ∙ turns_with g.M.Kind.Kinds.means old c.args.end (in_drv (end_of old c.args.end) (end_of new c.args.end).drv) refl p) (λ e p. ap (λ i. turn_of g.M.Kind.Kinds.means i p) e.1) in
    let differs : DiffersIn old new (Of (Places.Drv c.args.end)) =
    on_option c.take_driver-first.result _ _ _ some none
    (λ m e. take_driver_differs old c.args.end new m same e.0 e.1)
    (λ e. same_differs old new (Of (Places.Drv c.args.end)) e.1) in (
      c.enable_by_change.ensures.ready old c.len-before.ensures c.self.invariant.0 differs (λ p _ _. turns p),
      c.enable_by_change.ensures.places (places_same old new c.self.inside.enabling.run.items (ways_of_same old new differs.same) c.self.invariant.1),
      c.self.invariant.2,
    )

pub returns-clause-moves : goal.returns-clause-moves
returns-clause-moves g c =
    let old = c.self.inside.ends.image in
    let lent = c.end_mut.result.now.state in
    let left = c.take_driver-first.new.self.state in
    let new = with_end old c.args.end left in
    let some = lent_taken c.take_driver-first.result old c.args.end lent left c.end_mut.ensures.state c.take_driver-first.ensures.some in
    let none = lent_empty c.take_driver-first.result old c.args.end lent left c.end_mut.ensures.state c.take_driver-first.ensures.none in
    let same = lent_same old c.args.end lent left c.end_mut.ensures.state c.take_driver-first.ensures.same in
    let place = Places.Drv c.args.end in
    rw (← c.self.view_is)
    (if_some c.take_driver-first.result _ _ some
    (λ m e enabled.
    let less = c.enable_by_change.ensures.taken place refl enabled in
    let b = answers_options old.driver in
    count_take old new (Of place) (length c.self.inside.enabling.run.items) (length c.enable_by_change.new.self.run.items) (options_of b m) (take_driver_differs old c.args.end new m same e.0 e.1) (drv_served old new c.args.end m e.0) less (drv_sets_less b old new c.args.end m e.0)))

pub returns-clause-rests : goal.returns-clause-rests
returns-clause-rests g c =
    let old = c.self.inside.ends.image in
    let lent = c.end_mut.result.now.state in
    let left = c.take_driver-first.new.self.state in
    let new = with_end old c.args.end left in
    let some = lent_taken c.take_driver-first.result old c.args.end lent left c.end_mut.ensures.state c.take_driver-first.ensures.some in
    let none = lent_empty c.take_driver-first.result old c.args.end lent left c.end_mut.ensures.state c.take_driver-first.ensures.none in
    let same = lent_same old c.args.end lent left c.end_mut.ensures.state c.take_driver-first.ensures.same in
    let place = Places.Drv c.args.end in
    rw (← c.self.view_is)
    (if_none c.take_driver-first.result _ _ none
    (λ e enabled.
    let less = c.enable_by_change.ensures.taken place refl enabled in
    let b = answers_options old.driver in
    let held = ap (λ i. options_held b (held_by i (Of place))) e.1 in
    let long = ap (λ i. length (held_by i (Of place))) e.1 in
    count_take old new (Of place) (length c.self.inside.enabling.run.items) (length c.enable_by_change.new.self.run.items) 0 (same_differs old new (Of place) e.1) (record { fewer = omega (arith, long); one = omega (arith, long) }) less (omega (arith, held))))
