use Rattle.std.proofs.Common.{sym, ap₂, ◌∙◌}
use Rattle.std.specs.Option.{option_or}
use Rattle.strm_head_calls.specs.declared.request.Request.TheVariants as Requests
use Rattle.strm_head_msg.specs.Send.{putpmsg_refusals}
use Rattle.strm_head.specs.Effects.{common_refusals}
use Rattle.strm_head.proofs.RefusalLemmas.{first_of_both}
use Rattle.strm_head.proofs.asking.refusal_of_putpmsg.Goals as goal

pub returns : goal.returns
returns g c =
    let image = c.args.chain.now.image in
    c.or.ensures ∙ ap₂ (λ first own. option_or first own) c.common_refusal-common.ensures c.putpmsg_refusal.ensures ∙ sym (first_of_both (common_refusals image c.args.end (Requests.Canput 0)) (putpmsg_refusals image c.args.end c.args.parts.now.ctl c.args.parts.now.dat c.args.band c.args.flag))
