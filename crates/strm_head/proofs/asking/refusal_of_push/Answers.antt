use Rattle.std.proofs.Common.{sym, ap₂, ◌∙◌}
use Rattle.std.specs.Option.{option_or}
use Rattle.strm_head_calls.specs.declared.request.Request.TheVariants as Requests
use Rattle.strm_head_ioctl.specs.Modules.{push_refusals}
use Rattle.strm_head.specs.Effects.{common_refusals}
use Rattle.strm_head.proofs.RefusalLemmas.{first_of_both}
use Rattle.strm_head.proofs.asking.refusal_of_push.Goals as goal

pub returns : goal.returns
returns g c =
    let image = c.args.chain.now.image in
    c.or.ensures ∙ ap₂ (λ first own. option_or first own) c.common_refusal-common.ensures c.push_refusal.ensures ∙ sym (first_of_both (common_refusals image c.args.end Requests.GetRead) (push_refusals g.M.Kind.Kinds.means image c.args.end c.args.shape.now))
