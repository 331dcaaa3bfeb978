use Rattle.strm_chain_ends.proofs.LentLemmas.{lent_unchanged}
use Rattle.strm_chain.proofs.chain.Chain.line_room.Goals as goal

pub invariant_of-self : goal.invariant_of-self
invariant_of-self g c =
    let same = lent_unchanged c.self.inside.ends.image c.input_end-end.result c.end_mut.result.now.state c.driver_room.new.self.state c.end_mut.ensures.state c.driver_room.ensures.state in rw same c.self.invariant
