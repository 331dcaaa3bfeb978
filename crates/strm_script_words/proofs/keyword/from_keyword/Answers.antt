use Rattle.std.proofs.Common.{refl, ◌∙◌}
use Rattle.strm_script_words.proofs.keyword.from_keyword.Goals as goal

pub returns : goal.returns
returns g c = c.first_named.ensures ∙ c.of_length.ensures c.args.text.now refl
