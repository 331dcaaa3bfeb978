use Rattle.std.proofs.Common.{sym, ◌∙◌}
use Rattle.strm_chain_ends.specs.Flow.{offer_of, may}
use Rattle.strm_chain_ends.proofs.FitLemmas.{rests_if_still, told_of}
use Rattle.strm_chain_ends.proofs.ends.Ends.first_may.Goals as goal

pub returns-clause-rests : goal.returns-clause-rests
returns-clause-rests g c =
    let image = c.args.self.now.image in
    let place = c.args.place in
    λ still. rests_if_still g.M.Kind.Kinds.means image place c.count.ensures.fit c.count-2.ensures.fit
    (told_of (offer_of g.M.Kind.Kinds.means image place) (may g.M.Kind.Kinds.means image place) (sym c.front_may.ensures ∙ still))
