use Rattle.std.proofs.Common.{◌∙◌, ap, Some, true}
use Rattle.clap.specs.declared.builder.action.ArgAction.TheVariants.{Append}
use Rattle.clap.specs.Words.{Rule, rule_of}
use Rattle.strsh_options.proofs.line.file.Goals as goal

pub returns : goal.returns
returns c =
    ap rule_of c.help.ensures ∙ ap rule_of c.action.ensures
    ∙ ap (λ (r : Rule). record r { action = Some Append }) (ap rule_of c.required.ensures ∙ ap (λ (r : Rule). record r { required = true }) c.new.ensures.rule)
