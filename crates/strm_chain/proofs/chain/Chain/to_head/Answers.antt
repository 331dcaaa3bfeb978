use Rattle.std.proofs.Common.{◌≡◌, ◌≤◌, ◌<◌, ◌∙◌, true, false, Some, None, ap, sym, arith}
use Rattle.strm_chain_ends.specs.Image.{end_of}
use Rattle.strm_chain_ends.proofs.CalmLemmas.{head_calm}
use Rattle.strm_chain.specs.Hop.{deliver_all, up_hop, down_hop, rank}
use Rattle.strm_chain.proofs.HopLemmas.{carries_down, head_again, head_none, head_some}
use Rattle.strm_chain.proofs.LoadLemmas.{none_falls, one_falls}
use Rattle.strm_chain.proofs.chain.Chain.to_head.Goals as goal

pub returns-then-head_sent-clause-image : goal.returns-then-head_sent-clause-image
returns-then-head_sent-clause-image g c =
    let means = g.M.Kind.Kinds.means in
    rw c.if-head_sent.true
    (ap (λ i. deliver_all means i c.args.hops.now.items) (head_again means c.args.end c.args.self.now.image c.put_at_head.new.self.image c.args.m c.in_ok-sends.ensures.state))

pub returns-in-Some-clause-image : goal.returns-in-Some-clause-image
returns-in-Some-clause-image g c =
    let means = g.M.Kind.Kinds.means in
    let new = c.put_at_head.new.self.image in
    rw (c.push_front_reserved.ensures.items, c.down.ensures, c.if-head_sent.false)
    (ap (λ i. deliver_all means i c.args.hops.now.items)
    (carries_down means new true c.args.end c.count.result c.in-Some.m ∙ head_some means c.args.end c.args.self.now.image new c.args.m c.in-Some.m c.count.result (sym c.in-Some.is ∙ c.in_ok-sends.ensures.sends) c.in_ok-sends.ensures.state c.count.ensures.value))

pub returns-in-Some-clause-falls : goal.returns-in-Some-clause-falls
returns-in-Some-clause-falls g c =
    let few : c.count.result ≤ 8 = c.count.ensures.few in
    let less : rank (down_hop true c.args.end c.count.result c.in-Some.m) < rank (up_hop false c.args.end 0 c.args.m) = omega arith in
    rw (c.push_front_reserved.ensures.items, c.down.ensures, c.if-head_sent.false)
    (one_falls (up_hop false c.args.end 0 c.args.m) (down_hop true c.args.end c.count.result c.in-Some.m) c.args.hops.now.items less)

pub returns-in-None-clause-image : goal.returns-in-None-clause-image
returns-in-None-clause-image g c =
    let means = g.M.Kind.Kinds.means in
    ap (λ i. deliver_all means i c.args.hops.now.items)
    (head_none means c.args.head_sent c.args.end c.args.self.now.image c.put_at_head.new.self.image c.args.m (sym c.in-None.is ∙ c.in_ok-sends.ensures.sends) c.in_ok-sends.ensures.state)

pub returns-then-head_sent-clause-falls : goal.returns-then-head_sent-clause-falls
returns-then-head_sent-clause-falls g c =
    none_falls (up_hop c.args.head_sent c.args.end 0 c.args.m) c.args.hops.now.items

pub returns-in-None-clause-falls : goal.returns-in-None-clause-falls
returns-in-None-clause-falls g c =
    none_falls (up_hop c.args.head_sent c.args.end 0 c.args.m) c.args.hops.now.items

pub returns-in-Some-clause-grows : goal.returns-in-Some-clause-grows
returns-in-Some-clause-grows g c =
    λ kinds calm rest.
    let nothing : Some c.in-Some.m ≡ None = sym c.in-Some.is ∙ c.in_ok-sends.ensures.sends ∙ (head_calm (end_of c.args.self.now.image c.args.end) c.args.m calm).0 in
    cc

pub returns-then-head_sent-clause-err : goal.returns-then-head_sent-clause-err
returns-then-head_sent-clause-err g c = tt

pub returns-then-head_sent-clause-same : goal.returns-then-head_sent-clause-same
returns-then-head_sent-clause-same g c = c.put_at_head.ensures.same

pub returns-then-head_sent-clause-given : goal.returns-then-head_sent-clause-given
returns-then-head_sent-clause-given g c = c.put_at_head.ensures.given

pub returns-in-Some-clause-err : goal.returns-in-Some-clause-err
returns-in-Some-clause-err g c = tt

pub returns-in-Some-clause-same : goal.returns-in-Some-clause-same
returns-in-Some-clause-same g c = c.put_at_head.ensures.same

pub returns-in-Some-clause-given : goal.returns-in-Some-clause-given
returns-in-Some-clause-given g c = c.put_at_head.ensures.given

pub returns-in-None-clause-err : goal.returns-in-None-clause-err
returns-in-None-clause-err g c = tt

pub returns-in-None-clause-same : goal.returns-in-None-clause-same
returns-in-None-clause-same g c = c.put_at_head.ensures.same

pub returns-in-None-clause-given : goal.returns-in-None-clause-given
returns-in-None-clause-given g c = c.put_at_head.ensures.given

pub returns-in_err-sends-clause-same : goal.returns-in_err-sends-clause-same
returns-in_err-sends-clause-same g c = c.put_at_head.ensures.same

pub returns-in_err-sends-clause-given : goal.returns-in_err-sends-clause-given
returns-in_err-sends-clause-given g c = c.put_at_head.ensures.given
