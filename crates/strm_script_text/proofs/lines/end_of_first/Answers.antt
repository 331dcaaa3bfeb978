use Rattle.strm_script_text.proofs.PlaceLemmas.{first_inside, first_place}
use Rattle.strm_script_text.proofs.lines.end_of_first.Goals as goal

pub returns-clause-place : goal.returns-clause-place
returns-clause-place c = first_place c.args.text.now c.memchr.result c.memchr.ensures

pub returns-clause-within : goal.returns-clause-within
returns-clause-within c = first_inside c.args.text.now c.memchr.result (first_place c.args.text.now c.memchr.result c.memchr.ensures)
