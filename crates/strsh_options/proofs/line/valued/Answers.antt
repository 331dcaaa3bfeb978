use Rattle.std.proofs.Common.{◌≡◌, ◌∙◌, ap, Some}
use Rattle.clap.specs.Words.{Rule, rule_of}
use Rattle.strsh_options.specs.CommandLine.{option_rule}
use Rattle.strsh_options.proofs.LineLemmas.{parsed_by}
use Rattle.strsh_options.proofs.line.valued.Goals as goal

pub returns : goal.returns
returns c =
    let given = c.value_parser.ensures.given in
    let named : rule_of c.value_name.result ≡ record (option_rule c.args.id.now) { value_names = 1 } = rw c.value_name.ensures (ap (λ (r : Rule). record r { value_names = 1 }) c.option.ensures) in
    parsed_by c.value_name.result c.value_parser.result c.args.parser c.value_parser.ensures.others (given.1 ∙ ap Some given.2)
    ∙ ap (λ (r : Rule). record r { parser = Some c.args.parser }) named
