use Rattle.std.proofs.Common.{◌∙◌, ap}
use Rattle.clap.specs.Words.{Rule, rule_of}
use Rattle.strsh_options.proofs.line.worded.Goals as goal

pub returns : goal.returns
returns c = ap rule_of c.help.ensures ∙ ap rule_of c.value_name.ensures ∙ ap (λ (r : Rule). record r { value_names = 1 }) c.option.ensures
