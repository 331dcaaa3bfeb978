use Rattle.std.proofs.Common.{◌≡◌, ◌∙◌, ap, pos, [], ◌∷◌, codes}
use Rattle.clap.specs.Words.{Rule, rule_of}
use Rattle.clap.specs.declared.builder.value_parser.ValueParser.TheVariants as parsers
use Rattle.strm_run_input.specs.declared.validation.TheConstants.{MOST_WORKERS}
use Rattle.strsh_options.specs.CommandLine.{valued_rule}
use Rattle.strsh_options.proofs.line.workers.Goals as goal

pub returns : goal.returns
returns c =
    let parser : c.range-parser.result ≡ parsers.Signed (pos 1) (pos MOST_WORKERS) = rw (c.value_parser.ensures, c.new.ensures.start, c.new.ensures.end, c.from.ensures) at c.range-parser.ensures in
    ap rule_of c.help.ensures ∙ ap rule_of c.default_value.ensures
    ∙ ap (λ (r : Rule). record r { defaults = codes "4" ∷ [] }) (c.valued.ensures ∙ ap (valued_rule (codes "workers")) parser)
