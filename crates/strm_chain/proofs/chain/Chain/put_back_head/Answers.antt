use Rattle.strm_chain_ends.specs.declared.place.Place.{Place}
use Rattle.strm_chain_ends.specs.Flow.{turn_of}
use Rattle.strm_chain_ends.specs.Image.{end_of}
use Rattle.strm_chain_end.specs.End.{in_head}
use Rattle.strm_queue.specs.Queue.{put_back_in}
use Rattle.std.proofs.Common.{◌∙◌, refl, ap, ◌≡◌}
use Rattle.strm_chain_ends.proofs.TurnLemmas.{turns_with}
use Rattle.strm_chain_ends.specs.declared.place.NextQueue.TheVariants.{Head}
use Rattle.strm_chain_ends.specs.Held.{DiffersIn}
use Rattle.strm_chain_ends.proofs.NextLemmas.{ways_of_same}
use Rattle.strm_chain.proofs.CaseLemmas.{on_result}
use Rattle.strm_chain.proofs.EnablingLemmas.{places_same}
use Rattle.strm_chain_ends.proofs.FrameLemmas.{put_back_differs, same_differs}
use Rattle.strm_chain_ends.specs.Image.{with_end}
use Rattle.strm_chain_ends.proofs.LentLemmas.{lent_ok, lent_err, spent_ok, unspent_err}
use Rattle.strm_chain.proofs.chain.Chain.put_back_head.Goals as goal

pub invariant_of-self : goal.invariant_of-self
invariant_of-self g c =
    let old = c.self.inside.ends.image in
    let lent = c.end_mut.result.now.state in
    let left = c.put_back_head-answer.new.self.state in
    let new = with_end old c.args.end left in
    let ok = lent_ok c.put_back_head-answer.result old c.args.end lent left (λ s. in_head s (put_back_in s.head c.args.m)) c.end_mut.ensures.state c.put_back_head-answer.ensures.ok in
    let err = lent_err c.put_back_head-answer.result old c.args.end lent left c.end_mut.ensures.state c.put_back_head-answer.ensures.err in
    let turns : (p : Place) → turn_of g.M.Kind.Kinds.means new p ≡ turn_of g.M.Kind.Kinds.means old p = on_result c.put_back_head-answer.result _ _ _ ok err
    (λ e p. ap (λ i. turn_of g.M.Kind.Kinds.means i p) e ∙ turns_with g.M.Kind.Kinds.means old c.args.end (in_head (end_of old c.args.end) (put_back_in (end_of old c.args.end).head c.args.m)) refl p) (λ e p. ap (λ i. turn_of g.M.Kind.Kinds.means i p) e) in
    let differs : DiffersIn old new (Head c.args.end) =
    on_result c.put_back_head-answer.result _ _ _ ok err
    (λ e. put_back_differs old c.args.end new c.args.m e)
    (λ e. same_differs old new (Head c.args.end) e) in (
      c.enable_by_change.ensures.ready old c.len-before.ensures c.self.invariant.0 differs (λ p _ _. turns p),
      c.enable_by_change.ensures.places (places_same old new c.self.inside.enabling.run.items (ways_of_same old new differs.same) c.self.invariant.1),
      c.self.invariant.2,
    )

pub returns-clause-spent : goal.returns-clause-spent
returns-clause-spent g c =
    let ends = c.self.inside.ends in
    rw (← c.self.view_is) (spent_ok c.put_back_head-answer.result ends.image.driver ends.rooms c.args.end c.end_mut.result.now c.put_back_head-answer.new.self c.end_mut.ensures.room c.put_back_head-answer.ensures.spent)

pub returns-clause-unspent : goal.returns-clause-unspent
returns-clause-unspent g c =
    let ends = c.self.inside.ends in
    rw (← c.self.view_is) (unspent_err c.put_back_head-answer.result ends.image.driver ends.rooms c.args.end c.end_mut.result.now c.put_back_head-answer.new.self c.end_mut.ensures.room c.put_back_head-answer.ensures.unspent)
