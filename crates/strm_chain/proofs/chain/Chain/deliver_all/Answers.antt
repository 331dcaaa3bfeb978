use Rattle.std.proofs.Common.{◌≡◌, ◌∷◌, ◌∙◌, true, sym, ap, arith}
use Rattle.std.proofs.lemmas.Bool.{and_parts}
use Rattle.strm_module.specs.Calm.{is_calm, options_of}
use Rattle.strm_chain_ends.specs.Count.{answers_options}
use Rattle.strm_chain.specs.Count.{options_carried, are_calm_hops}
use Rattle.strm_chain.specs.Hop.{deliver_all}
use Rattle.strm_chain.proofs.CountLemmas.{hops_set, hop_adds}
use Rattle.strm_chain.proofs.QuietLemmas.{same_trans}
use Rattle.strm_chain.proofs.chain.Chain.deliver_all.Goals as goal

pub loop-hop-preserved : goal.loop-hop-preserved
loop-hop-preserved g c =
    let means = g.M.Kind.Kinds.means in
    let l = c.loop-hop.invariant in
    let start = c.args.self.now.image in
    let mid = c.loop-hop.self.image in
    let hop = c.in-Some.hop in
    let rest = c.pop_front.new.self.items in
    let more = c.hop.new.hops.items in
    let first : c.loop-hop.hops.items ≡ hop ∷ rest = c.in-Some.ensures.items in
    record {
      image = c.in_ok-hop.ensures.image ∙ ap (deliver_all means mid) (sym first) ∙ l.image;
      same = same_trans start mid c.hop.new.self.image l.same c.hop.ensures.same;
      grows = λ kinds calm.
          let before = l.grows kinds calm in
          let both : are_calm_hops (hop ∷ rest) ≡ true = ap are_calm_hops (sym first) ∙ before.1 in
          let step = c.in_ok-hop.ensures.grows kinds ((and_parts (is_calm hop.m.kind) (are_calm_hops rest) both).0) ((and_parts (is_calm hop.m.kind) (are_calm_hops rest) both).1) in
          let set = ap (options_carried start) first ∙ hop_adds (answers_options start.driver) hop rest in
          let driver = ap answers_options l.same.driver in
          let own = ap (λ b. options_of b hop.m) driver in
          let others = ap (λ b. hops_set b rest) driver in
          let after = ap (λ b. hops_set b more) driver in
          (omega (arith, before.0, step.0, set, own, others, after), step.1);
      given = c.hop.ensures.given ∙ l.given;
    }
