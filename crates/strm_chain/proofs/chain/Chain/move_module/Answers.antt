use Rattle.std.proofs.Common.{◌≡◌, ◌-◌, ◌∙◌, false, OnOk, map, ap, subst}
use Rattle.strm_chain_ends.specs.Image.{Image, count_of}
use Rattle.strm_chain.specs.Service.{move}
use Rattle.strm_chain.specs.Hop.{deliver_all, hop_of}
use Rattle.strm_chain_ends.specs.Held.{module_place}
use Rattle.strm_chain.proofs.HopLemmas.{rest_after, module_move}
use Rattle.std.proofs.Common.{true, [], refl, arith}
use Rattle.strm_chain_ends.specs.Image.{end_of}
use Rattle.strm_chain_ends.proofs.CalmLemmas.{serves_calm}
use Rattle.strm_chain.specs.Service.{serve_at}
use Rattle.strm_module.specs.Calm.{options_sent}
use Rattle.strm_chain_ends.specs.Count.{answers_options}
use Rattle.strm_chain.specs.Count.{options_carried, are_calm_hops}
use Rattle.strm_chain.proofs.CaseLemmas.{on_ok}
use Rattle.strm_chain.proofs.CountLemmas.{outs_calm, outs_set}
use Rattle.strm_chain.proofs.QuietLemmas.{same_trans}
use Rattle.strm_chain.proofs.chain.Chain.move_module.Goals as goal

pub returns-clause-ok : goal.returns-clause-ok
returns-clause-ok g c =
    let means = g.M.Kind.Kinds.means in
    let old = c.args.self.now.image in
    let new = c.serve_at.new.self.image in
    let below = c.saturating_sub-below.result in
    let at : below ≡ count_of old c.args.end - c.args.i = c.saturating_sub-below.ensures ∙ ap (λ k. k - c.args.i) c.count.ensures.value in
    let there = move means old (module_place c.args.side c.args.end c.args.i) in
    let hops = c.push_outs.new.hops.items in
    let e : deliver_all means new hops ≡ there =
    rest_after means new there (map (hop_of false c.args.side c.args.end c.args.i below) c.in_ok-outs.outs.items) c.args.hops.now.items hops c.push_outs.ensures.items
    (rw (c.in_ok-outs.ensures.image, c.in_ok-outs.ensures.outs) (module_move means c.args.side c.args.end c.args.i below old at)) ∙ ap (deliver_all means there) c.requires.empty in
    subst (λ (j : Image _). OnOk c.deliver_all.result (c.deliver_all.new.self.image ≡ j)) e c.deliver_all.ensures.ok

pub returns-clause-moves : goal.returns-clause-moves
returns-clause-moves g c =
    let means = g.M.Kind.Kinds.means in
    let old = c.args.self.now.image in
    let below = c.saturating_sub-below.result in
    on_ok c.deliver_all.result _ _ c.deliver_all.ensures.grows
    (λ grow kinds enabled.
    let outs = (serves_calm means (end_of old c.args.end) c.args.i c.args.side kinds c.count.ensures.ordinary).0 in
    let hops : are_calm_hops c.push_outs.new.hops.items ≡ true =
    rw (c.push_outs.ensures.items, c.requires.empty, c.in_ok-outs.ensures.outs)
    (outs_calm false c.args.side c.args.end c.args.i below (serve_at means old c.args.end c.args.i c.args.side).outs [] outs refl) in
    let served = c.in_ok-outs.ensures.moves kinds enabled in
    let more = grow kinds hops in
    let mid = c.serve_at.new.self.image in
    let sent = c.in_ok-outs.outs.items in
    let set = ap (options_carried mid) c.push_outs.ensures.items ∙ outs_set (answers_options mid.driver) false c.args.side c.args.end c.args.i below sent c.args.hops.now.items in
    let same : options_sent (answers_options mid.driver) sent ≡ options_sent (answers_options old.driver) sent = rw (c.serve_at.ensures.same.driver) refl in
    let none = ap (options_carried mid) c.requires.empty in
    omega (arith, served, more, set, same, none))

pub returns-clause-same : goal.returns-clause-same
returns-clause-same g c =
    same_trans c.args.self.now.image c.serve_at.new.self.image c.deliver_all.new.self.image c.serve_at.ensures.same c.deliver_all.ensures.same

pub returns-clause-given : goal.returns-clause-given
returns-clause-given g c = c.deliver_all.ensures.given ∙ c.serve_at.ensures.given

pub returns-in_err-outs-clause-same : goal.returns-in_err-outs-clause-same
returns-in_err-outs-clause-same g c = c.serve_at.ensures.same

pub returns-in_err-outs-clause-given : goal.returns-in_err-outs-clause-given
returns-in_err-outs-clause-given g c = c.serve_at.ensures.given
