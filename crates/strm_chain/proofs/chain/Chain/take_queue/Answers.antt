use Rattle.std.proofs.Common.{◌≡◌, ◌∙◌, drop, ap, arith, length}
use Rattle.strm_chain_end.specs.Change.{with_queue}
use Rattle.strm_chain_end.specs.End.{EndState, list_at}
use Rattle.strm_chain_ends.specs.declared.place.NextQueue.TheVariants.{Of}
use Rattle.strm_chain_ends.specs.declared.place.Place.{Place}
use Rattle.strm_chain_ends.specs.Flow.{turn_of}
use Rattle.strm_chain_ends.specs.Held.{DiffersIn}
use Rattle.strm_chain_ends.specs.Image.{end_of, with_end}
use Rattle.strm_chain_ends.specs.Same.{SameModules}
use Rattle.strm_chain_ends.proofs.FrameLemmas.{shift_drop}
use Rattle.strm_chain_ends.proofs.LentLemmas.{lent_as, lent_same}
use Rattle.strm_chain_ends.proofs.NextLemmas.{ways_of_same}
use Rattle.strm_chain_ends.proofs.QueueLemmas.{queue_differs, queue_turns}
use Rattle.strm_chain.proofs.EnablingLemmas.{places_same}
use Rattle.strm_chain.proofs.NumberLemmas.{programs_counted}
use Rattle.strm_chain.proofs.chain.Chain.take_queue.Goals as goal

pub enable_by_change-requires-after_bounds : goal.enable_by_change-requires-after_bounds
enable_by_change-requires-after_bounds g c κs within =
    let old = c.self.inside.ends.image in
    let size = ap (λ (s : EndState g.row.M-Kind.Denot). length s.modules) c.end.ensures.state in
    rw c.place_on.ensures
    (programs_counted (end_of old c.args.end) c.args.end c.args.i c.args.side (rw (← c.self.view_is) at c.requires) (omega (arith, c.count.ensures.value, c.count.ensures.few, size)))

pub invariant_of-self : goal.invariant_of-self
invariant_of-self g c =
    let means = g.M.Kind.Kinds.means in
    let old = c.self.inside.ends.image in
    let lent = c.end_mut.result.now.state in
    let left = c.take_queue-first.new.self.state in
    let new = with_end old c.args.end left in
    let rest = drop 1 (list_at (end_of old c.args.end) c.args.i c.args.side) in
    let is = lent_as old c.args.end lent left (λ s. with_queue s c.args.i c.args.side (drop 1 (list_at s c.args.i c.args.side))) c.end_mut.ensures.state c.take_queue-first.ensures.state in
    let same : SameModules old new = lent_same old c.args.end lent left c.end_mut.ensures.state c.take_queue-first.ensures.same in
    let turns : (p : Place) → turn_of means new p ≡ turn_of means old p = λ p. ap (λ i. turn_of means i p) is ∙ queue_turns means old c.args.end c.args.i c.args.side rest p in
    let differs : DiffersIn old new (Of c.place_on.result) =
    rw c.place_on.ensures
    (queue_differs old new c.args.end c.args.i c.args.side rest same (shift_drop (list_at (end_of old c.args.end) c.args.i c.args.side)) is) in (
      c.enable_by_change.ensures.ready old c.len-before.ensures c.self.invariant.0 differs (λ p _ _. turns p),
      c.enable_by_change.ensures.places (places_same old new c.self.inside.enabling.run.items (ways_of_same old new differs.same) c.self.invariant.1),
      c.self.invariant.2,
    )
