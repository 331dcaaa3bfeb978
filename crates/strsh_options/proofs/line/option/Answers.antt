use Rattle.std.proofs.Common.{◌∙◌, ap, Some}
use Rattle.clap.specs.Words.{Rule, rule_of}
use Rattle.strsh_options.proofs.line.option.Goals as goal

pub returns : goal.returns
returns c = ap rule_of c.long.ensures ∙ ap (λ (r : Rule). record r { long = Some c.args.id.now }) c.new.ensures.rule
