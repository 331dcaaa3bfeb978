use Rattle.std.proofs.Common.{◌≡◌, ◌+◌, ◌-◌, ◌∙◌, false, ap}
use Rattle.strm_chain_ends.specs.Image.{count_of}
use Rattle.strm_chain.specs.Deliver.{down}
use Rattle.strm_chain.proofs.HopLemmas.{carries_up, carries_down}
use Rattle.strm_chain.proofs.chain.Chain.first_hop.Goals as goal

pub returns-in-Down : goal.returns-in-Down
returns-in-Down g c =
    let means = g.M.Kind.Kinds.means in
    let image = c.args.self.now.image in
    let end = c.in-Down.end in
    let n = c.saturating_sub-ahead.result in
    let at : n ≡ count_of image end + 1 - c.in-Down.i = c.saturating_sub-ahead.ensures ∙ ap (λ k. k + 1 - c.from.result) c.count.ensures.value ∙ ap (λ k. count_of image end + 1 - k) c.from.ensures in
    rw (c.in-Down.is, c.down.ensures)
    (carries_down means image false end n c.args.m ∙ ap (λ k. down means false end k image c.args.m) at)

pub returns-in-Up : goal.returns-in-Up
returns-in-Up g c =
    rw (c.in-Up.is, c.up.ensures, c.from-in-Up.ensures) (carries_up g.M.Kind.Kinds.means c.args.self.now.image false c.in-Up.end c.in-Up.i c.args.m)
