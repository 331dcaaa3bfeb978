use Rattle.std.proofs.Common.{◌∙◌, ap, refl}
use Rattle.clap.specs.Words.{found_of}
use Rattle.strsh_options.specs.CommandLine.{is_of_words}
use Rattle.strsh_options.proofs.RowLemmas.{source_rows, words_eq}
use Rattle.strsh_options.proofs.options.given.Goals as goal

pub returns : goal.returns
returns c =
    c.eq.ensures ∙ words_eq _ refl refl c.value_source.result ∙ ap is_of_words (c.value_source.ensures ∙ source_rows (found_of c.args.matches.now) c.args.id.now)
