use Rattle.std.proofs.Common.{◌∙◌, sym}
use Rattle.strm_chain_ends.specs.Held.{AreCalm}
use Rattle.strm_chain_ends.proofs.NextLemmas.{offers_there}
use Rattle.strm_chain.proofs.EnablingLemmas.{places_with}
use Rattle.strm_chain.proofs.enabling.Enabling.enable_if_filled.Goals as goal

pub returns-then-holds-clause-places : goal.returns-then-holds-clause-places
returns-then-holds-clause-places g c =
    let image = c.args.ends.now.image in
    let ordinary : AreCalm image = record { on_a = c.count.ensures.ordinary; on_b = c.count-2.ensures.ordinary } in
    let there = offers_there g.M.Kind.Kinds.means image c.args.place (sym c.holds.ensures.value ∙ c.if-holds.true) in
    λ all. rw c.enable.ensures.items (places_with image c.args.self.now.run.items c.args.place there all)
