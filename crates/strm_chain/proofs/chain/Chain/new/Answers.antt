use Rattle.strm_chain.proofs.chain.Chain.new.Goals as goal

pub invariant_of-result : goal.invariant_of-result
invariant_of-result g c = (c.enable_all.ensures.ready, c.enable_all.ensures.places, c.new-hops.ensures.items)

pub returns : goal.returns
returns g c = c.in_ok-ends.ensures
