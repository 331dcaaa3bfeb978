use Rattle.std.proofs.Common.{ap}
use Rattle.strm_chain_ends.specs.Image.{EndsValue}
use Rattle.strm_chain.proofs.EnablingLemmas.{ready_broken, places_broken}
use Rattle.strm_chain.proofs.chain.Chain.break_off.Goals as goal

pub invariant_of-self : goal.invariant_of-self
invariant_of-self g c =
    let old = c.self.inside.ends.image in
    let new = c.break_off.new.self.image in
    let is = ap (λ (v : EndsValue _). v.image) c.break_off.ensures in (
      ready_broken g.M.Kind.Kinds.means old new c.self.inside.enabling is c.self.invariant.0,
      places_broken old new c.self.inside.enabling.run.items is c.self.invariant.1,
      c.self.invariant.2,
    )
