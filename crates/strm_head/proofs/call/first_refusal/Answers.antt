use Rattle.std.proofs.Common.{sym, ap, ◌∙◌}
use Rattle.std.specs.Option.{option_or}
use Rattle.strm_head_calls.specs.Refusal.{first_that_holds}
use Rattle.strm_head.specs.Effects.{own_refusals}
use Rattle.strm_head.proofs.RefusalLemmas.{first_of_all, common_of}
use Rattle.strm_head.proofs.call.first_refusal.Goals as goal

pub returns-in-Some : goal.returns-in-Some
returns-in-Some g c =
    let image = c.args.chain.now.image in
    let request = c.args.request.now in
    sym (first_of_all g.M.Kind.Kinds.means image c.args.end request (common_of request c.in_default.not-Close c.in_default.not-Take c.in_default.not-Service c.in_default.not-Poll) ∙ ap (λ first. option_or first (first_that_holds (own_refusals g.M.Kind.Kinds.means image c.args.end request))) (sym c.common_refusal.ensures ∙ c.in-Some.is))

pub returns-in-None : goal.returns-in-None
returns-in-None g c =
    let image = c.args.chain.now.image in
    let request = c.args.request.now in
    c.own_refusal.ensures ∙ sym (first_of_all g.M.Kind.Kinds.means image c.args.end request (common_of request c.in_default.not-Close c.in_default.not-Take c.in_default.not-Service c.in_default.not-Poll) ∙ ap (λ first. option_or first (first_that_holds (own_refusals g.M.Kind.Kinds.means image c.args.end request))) (sym c.common_refusal.ensures ∙ c.in-None.is))
