use Rattle.std.proofs.Common.{◌≡◌, ◌∙◌, ap, refl}
use Rattle.strm_msg.specs.declared.words.End.TheVariants.{A}
use Rattle.strm_chain_ends.specs.declared.place.Place.{Place}
use Rattle.strm_chain_ends.specs.Flow.{turn_of}
use Rattle.strm_chain_ends.specs.Image.{end_of, with_end}
use Rattle.strm_chain_end.specs.End.{in_drv}
use Rattle.strm_queue.specs.Queue.{put_back_in}
use Rattle.strm_chain_ends.proofs.TurnLemmas.{turns_with}
use Rattle.strm_chain_ends.specs.declared.place.NextQueue.TheVariants.{Of}
use Rattle.strm_chain_ends.specs.declared.place.Place.TheVariants as Places
use Rattle.strm_chain_ends.specs.Held.{DiffersIn}
use Rattle.strm_chain_ends.proofs.NextLemmas.{ways_of_same}
use Rattle.strm_chain.proofs.CaseLemmas.{on_result}
use Rattle.strm_chain.proofs.EnablingLemmas.{places_same}
use Rattle.strm_chain_ends.proofs.FrameLemmas.{driver_back_differs, same_differs}
use Rattle.strm_chain_ends.proofs.LentLemmas.{lent_ok, lent_err}
use Rattle.strm_chain.proofs.chain.Chain.put_back_out.Goals as goal

pub invariant_of-self : goal.invariant_of-self
invariant_of-self g c =
    let old = c.self.inside.ends.image in
    let at = A in
    let lent = c.end_mut.result.now.state in
    let left = c.put_back_driver-answer.new.self.state in
    let new = with_end old at left in
    let ok = lent_ok c.put_back_driver-answer.result old at lent left (λ s. in_drv s (put_back_in s.drv c.args.m)) c.end_mut.ensures.state c.put_back_driver-answer.ensures.ok in
    let err = lent_err c.put_back_driver-answer.result old at lent left c.end_mut.ensures.state c.put_back_driver-answer.ensures.err in
    let turns : (p : Place) → turn_of g.M.Kind.Kinds.means new p ≡ turn_of g.M.Kind.Kinds.means old p = on_result c.put_back_driver-answer.result _ _ _ ok err
    (λ e p. ap (λ i. turn_of g.M.Kind.Kinds.means i p) e ∙ turns_with g.M.Kind.Kinds.means old at (in_drv (end_of old at) (put_back_in (end_of old at).drv c.args.m)) refl p) (λ e p. ap (λ i. turn_of g.M.Kind.Kinds.means i p) e) in
    let differs : DiffersIn old new (Of (Places.Drv at)) =
    on_result c.put_back_driver-answer.result _ _ _ ok err
    (λ e. driver_back_differs old new at c.args.m e)
    (λ e. same_differs old new (Of (Places.Drv at)) e) in (
      c.enable_by_change.ensures.ready old c.len-before.ensures c.self.invariant.0 differs (λ p _ _. turns p),
      c.enable_by_change.ensures.places (places_same old new c.self.inside.enabling.run.items (ways_of_same old new differs.same) c.self.invariant.1),
      c.self.invariant.2,
    )
