use Rattle.std.proofs.Common.{sym}
use Rattle.strm_script_words.proofs.ChoiceLemmas.{one_chosen, none_chosen}
use Rattle.strm_script_words.proofs.keyword.keyword_at.Goals as goal

pub returns-in-Some-clause-choice : goal.returns-in-Some-clause-choice
returns-in-Some-clause-choice g c = one_chosen g.W.Keyword.word c.args.text.now g.W.Keyword.all c.in-Some.one (sym c.in-Some.ensures)

pub returns-in-None-clause-choice : goal.returns-in-None-clause-choice
returns-in-None-clause-choice g c = none_chosen g.W.Keyword.word c.args.text.now g.W.Keyword.all (sym c.in-None.ensures)
