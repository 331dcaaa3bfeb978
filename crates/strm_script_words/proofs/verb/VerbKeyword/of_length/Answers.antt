use Rattle.std.proofs.Common.{ap, sym, ◌∙◌}
use Rattle.strm_script_words.specs.Table.{all_verbs, verbs_of_length, word_of}
use Rattle.strm_script_words.specs.Words.{named}
use Rattle.strm_script_words.proofs.ChoiceLemmas.{named_by_length}
use Rattle.strm_script_words.proofs.verb.VerbKeyword.of_length.Goals as goal

pub returns : goal.returns
returns c = λ text is. ap (λ some. named word_of some text) (c.verbs_of_length.ensures ∙ ap verbs_of_length (sym is)) ∙ named_by_length word_of text all_verbs
