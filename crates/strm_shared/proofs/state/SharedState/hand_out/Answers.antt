use Rattle.strm_shared.proofs.ArrivalLemmas.{handed_locked}
use Rattle.strm_shared.proofs.state.SharedState.hand_out.Goals as goal

pub invariant_of-self : goal.invariant_of-self
invariant_of-self g c =
    handed_locked g.N.StreamRunName.calls _ _ _ c.hand_out.result _ _ c.hand_out.ensures c.self.invariant
