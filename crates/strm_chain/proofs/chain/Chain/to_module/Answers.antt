use Rattle.std.proofs.Common.{◌-◌, ◌∙◌, map, ap}
use Rattle.strm_msg.specs.declared.words.Side.{Side}
use Rattle.strm_chain.specs.Hop.{carry, hop_of, next_module}
use Rattle.strm_chain.proofs.HopLemmas.{rest_after, module_hop}
use Rattle.strm_chain.proofs.LoadLemmas.{outs_fall}
use Rattle.std.proofs.Common.{◌-◌}
use Rattle.strm_chain_ends.specs.Image.{end_of}
use Rattle.strm_chain_ends.proofs.CalmLemmas.{gets_calm}
use Rattle.strm_chain.specs.Deliver.{put_at}
use Rattle.std.proofs.Common.{arith}
use Rattle.strm_chain_ends.specs.Count.{answers_options}
use Rattle.strm_chain.specs.Count.{options_carried}
use Rattle.strm_chain.proofs.CountLemmas.{outs_calm, outs_set}
use Rattle.strm_chain.proofs.chain.Chain.to_module.Goals as goal

pub returns-clause-image : goal.returns-clause-image
returns-clause-image g c =
    let means = g.M.Kind.Kinds.means in
    let h = c.args.hop in
    let old = c.args.self.now.image in
    let i = c.next_module-i.result in
    let outs = c.in_ok-outs.outs.items in
    rest_after means c.put_at.new.self.image (carry means old h) (map (hop_of h.head_sent h.side h.end i (h.ahead - 1)) outs) c.args.hops.now.items c.push_outs.new.hops.items c.push_outs.ensures.items
    (rw (c.in_ok-outs.ensures.image, c.in_ok-outs.ensures.outs) (module_hop means h.head_sent h.side h.end h.ahead i old h.m c.requires.ahead c.next_module-i.ensures.value))

pub returns-clause-falls : goal.returns-clause-falls
returns-clause-falls g c =
    let h = c.args.hop in
    let i = c.next_module-i.result in
    rw c.push_outs.ensures.items
    (outs_fall h.head_sent h.side h.end i h.ahead h.m c.in_ok-outs.outs.items c.args.hops.now.items c.requires.ahead
    (λ rd. c.next_module-i.ensures.value ∙ ap (λ (s : Side). next_module c.args.self.now.image s h.end h.ahead) rd)
    c.next_module-i.ensures.few c.push_outs.ensures.few)

pub returns-clause-grows : goal.returns-clause-grows
returns-clause-grows g c =
    let means = g.M.Kind.Kinds.means in
    let old = c.args.self.now.image in
    let h = c.args.hop in
    let i = c.next_module-i.result in
    let sent = c.in_ok-outs.outs.items in
    λ kinds calm rest.
    let outs = (gets_calm means (end_of old h.end) i h.side h.m kinds calm).0 in
    let grow = c.in_ok-outs.ensures.grows kinds calm in
    let set = ap (options_carried old) c.push_outs.ensures.items ∙ outs_set (answers_options old.driver) h.head_sent h.side h.end i (h.ahead - 1) sent c.args.hops.now.items in (
      omega (arith, grow, set),
      rw (c.push_outs.ensures.items, c.in_ok-outs.ensures.outs)
          (outs_calm h.head_sent h.side h.end i (h.ahead - 1) (put_at means old h.end i h.side h.m).outs c.args.hops.now.items outs rest),
    )

pub returns-clause-err : goal.returns-clause-err
returns-clause-err g c = tt

pub returns-clause-same : goal.returns-clause-same
returns-clause-same g c = c.put_at.ensures.same

pub returns-clause-given : goal.returns-clause-given
returns-clause-given g c = c.put_at.ensures.given

pub returns-in_err-outs-clause-same : goal.returns-in_err-outs-clause-same
returns-in_err-outs-clause-same g c = c.put_at.ensures.same

pub returns-in_err-outs-clause-given : goal.returns-in_err-outs-clause-given
returns-in_err-outs-clause-given g c = c.put_at.ensures.given
