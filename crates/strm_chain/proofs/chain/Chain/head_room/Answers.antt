use Rattle.strm_chain_ends.proofs.LentLemmas.{lent_unchanged}
use Rattle.strm_chain.proofs.chain.Chain.head_room.Goals as goal

pub invariant_of-self : goal.invariant_of-self
invariant_of-self g c =
    let same = lent_unchanged c.self.inside.ends.image c.args.end c.end_mut.result.now.state c.head_room.new.self.state c.end_mut.ensures.state c.head_room.ensures.state in rw same c.self.invariant
