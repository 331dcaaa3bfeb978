use Rattle.std.proofs.Common.{ap}
use Rattle.strm_chain_end.specs.Change.{asked_given_back}
use Rattle.strm_chain_end.specs.End.{EndValue, in_state}
use Rattle.strm_chain_ends.specs.Image.{with_end}
use Rattle.strm_chain_ends.proofs.LentLemmas.{lent_as}
use Rattle.strm_chain.proofs.EnablingLemmas.{ready_state, places_state}
use Rattle.strm_chain.proofs.chain.Chain.undo_ask.Goals as goal

pub invariant_of-self : goal.invariant_of-self
invariant_of-self g c =
    let old = c.self.inside.ends.image in
    let left = c.undo_ask.new.self.state in
    let new = with_end old c.args.end left in
    let is = lent_as old c.args.end c.end_mut.result.now.state left (λ s. in_state s (asked_given_back s.state)) c.end_mut.ensures.state (ap (λ (v : EndValue _). v.state) c.undo_ask.ensures) in (
      ready_state g.M.Kind.Kinds.means old new c.args.end _ c.self.inside.enabling is c.self.invariant.0,
      places_state old new c.args.end _ c.self.inside.enabling.run.items is c.self.invariant.1,
      c.self.invariant.2,
    )
