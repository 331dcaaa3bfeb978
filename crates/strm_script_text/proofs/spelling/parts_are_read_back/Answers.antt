use Rattle.strm_script_text.proofs.ReadBackLemmas.{read_back}
use Rattle.strm_script_text.proofs.spelling.parts_are_read_back.Goals as goal

pub returns : goal.returns
returns c = read_back
