use Rattle.std.proofs.Common.{◌∙◌, ap}
use Rattle.clap.specs.Simple.{app_of_fields}
use Rattle.strsh_options.specs.CommandLine.{with_version}
use Rattle.strsh_options.proofs.line.bare_command.Goals as goal

pub returns-clause-line : goal.returns-clause-line
returns-clause-line c =
    ap app_of_fields c.after_help.ensures ∙ ap app_of_fields c.about.ensures ∙ ap app_of_fields c.version.ensures
    ∙ ap with_version (ap app_of_fields c.in_ok-bin_name.ensures.0 ∙ c.new.ensures.app)
