use Rattle.std.proofs.Common.{ap, length, arith}
use Rattle.strm_chain_ends.specs.Count.{place_count}
use Rattle.strm_chain.specs.Enabled.{ChainValue, Enabled}
use Rattle.strm_chain.proofs.EnablingLemmas.{places_few}
use Rattle.strm_chain.proofs.chain.Chain.restart.Goals as goal

pub returns-clause-few : goal.returns-clause-few
returns-clause-few g c =
    let few = places_few c.self.inside.ends.image 40 c.self.inside.enabling.run.items c.len.ensures.once c.self.invariant.1 in
    let same = ap (λ (e : Enabled). length e.run.items) c.restart.ensures in
    let image = ap (λ (v : ChainValue _). place_count v.image) c.self.view_is in
    omega (arith, few, same, image)
