use Rattle.strm_head.proofs.ArriveLemmas.{arrived_kept}
use Rattle.strm_head.proofs.stream.Stream.arrive.Goals as goal

pub invariant_of-self : goal.invariant_of-self
invariant_of-self g c =
    arrived_kept g.M.Kind.Kinds.means c.self.inside.chain.value.image c.args.m c.arrive.result c.arrive.new.chain.image c.self.invariant (rw c.deref_mut.ensures.value at c.arrive.ensures.arrives)
