use Rattle.strm_chain_ends.specs.declared.place.Place.{Place}
use Rattle.strm_chain_ends.specs.Flow.{turn_of}
use Rattle.strm_chain_ends.specs.Image.{end_of}
use Rattle.strm_chain_end.specs.End.{in_head}
use Rattle.std.proofs.Common.{drop, ◌∙◌, refl, ap, ◌≡◌}
use Rattle.strm_chain_ends.proofs.TurnLemmas.{turns_with}
use Rattle.strm_chain_ends.specs.declared.place.NextQueue.TheVariants.{Head}
use Rattle.strm_chain_ends.specs.Held.{DiffersIn}
use Rattle.strm_chain_ends.proofs.NextLemmas.{ways_of_same}
use Rattle.strm_chain.proofs.EnablingLemmas.{places_same}
use Rattle.strm_chain_ends.proofs.FrameLemmas.{take_head_differs}
use Rattle.strm_chain_ends.specs.Image.{with_end}
use Rattle.strm_chain_ends.proofs.LentLemmas.{lent_as}
use Rattle.strm_chain.proofs.chain.Chain.take_head.Goals as goal

pub invariant_of-self : goal.invariant_of-self
invariant_of-self g c =
    let old = c.self.inside.ends.image in
    let lent = c.end_mut.result.now.state in
    let left = c.take_head-first.new.self.state in
    let new = with_end old c.args.end left in
    let is = lent_as old c.args.end lent left (λ s. in_head s (drop 1 s.head)) c.end_mut.ensures.state c.take_head-first.ensures.state in
    let turns : (p : Place) → turn_of g.M.Kind.Kinds.means new p ≡ turn_of g.M.Kind.Kinds.means old p = λ p. ap (λ i. turn_of g.M.Kind.Kinds.means i p) is ∙ turns_with g.M.Kind.Kinds.means old c.args.end (in_head (end_of old c.args.end) (drop 1 (end_of old c.args.end).head)) refl p in
    let differs : DiffersIn old new (Head c.args.end) =
    take_head_differs old c.args.end new is in (
      c.enable_by_change.ensures.ready old c.len-before.ensures c.self.invariant.0 differs (λ p _ _. turns p),
      c.enable_by_change.ensures.places (places_same old new c.self.inside.enabling.run.items (ways_of_same old new differs.same) c.self.invariant.1),
      c.self.invariant.2,
    )
