use Rattle.std.proofs.Common.{length, sym, ap}
use Rattle.strm_msg.specs.declared.words.Side.TheVariants.{Wr}
use Rattle.strm_chain_end.specs.End.{expired_at}
use Rattle.strm_chain_ends.specs.declared.place.NextQueue.TheVariants.{Of}
use Rattle.strm_chain_ends.specs.declared.place.Place.TheVariants as Places
use Rattle.strm_chain_ends.specs.Image.{with_end}
use Rattle.strm_chain_ends.proofs.LentLemmas.{lent_as, lent_same}
use Rattle.strm_chain_ends.proofs.NextLemmas.{ways_of_same}
use Rattle.strm_chain_ends.proofs.TickLemmas.{expired_differs, expired_held}
use Rattle.strm_chain_ends.proofs.TurnLemmas.{turns_expires}
use Rattle.strm_chain.proofs.EnablingLemmas.{places_same, ready_still_all}
use Rattle.strm_chain.proofs.chain.Chain.tick_at.Goals as goal

pub invariant_of-self : goal.invariant_of-self
invariant_of-self g c =
    let means = g.M.Kind.Kinds.means in
    let old = c.self.inside.ends.image in
    let lent = c.end_mut.result.now.state in
    let left = c.expire_at.new.self.state in
    let new = with_end old c.args.end left in
    let is = lent_as old c.args.end lent left (λ s. expired_at means s c.args.i c.args.ticks) c.end_mut.ensures.state c.expire_at.ensures.state in
    let same = lent_same old c.args.end lent left c.end_mut.ensures.state c.expire_at.ensures.same in
    let queue = Of (Places.Wr c.args.end c.args.i) in
    let differs = expired_differs means old new c.args.end c.args.i Wr c.args.ticks same is in
    let still = ap length (expired_held means old new c.args.end c.args.i c.args.ticks same is) in
    let known = c.enable_by_turns.ensures.known old (sym c.turns-turns.ensures.wr) (sym c.turns-turns.ensures.rd) (turns_expires means old new c.args.end c.args.i c.args.ticks is) in (
      ready_still_all means old new queue c.enable_by_turns.new.self differs known still (c.enable_by_turns.ensures.ready old c.self.invariant.0),
      c.enable_by_turns.ensures.places (places_same old new c.self.inside.enabling.run.items (ways_of_same old new same) c.self.invariant.1),
      c.self.invariant.2,
    )
