use Rattle.strm_script_text.proofs.LineLemmas.{cut_at_place, lines_after_cut, lines_of_one, uncut_without_place}
use Rattle.strm_script_text.proofs.lines.first_line.Goals as goal

pub returns-in-Some-clause-first : goal.returns-in-Some-clause-first
returns-in-Some-clause-first c = rw c.without_return.ensures (lines_after_cut c.args.text.now _ _ (cut_at_place _ _ _ _ _ c.end_of_first.ensures.place c.in-Some.is))

pub returns-in-None-clause-first : goal.returns-in-None-clause-first
returns-in-None-clause-first c = lines_of_one _ c.requires (uncut_without_place _ _ _ _ c.end_of_first.ensures.place c.in-None.is)
