use Rattle.strm_script_print.proofs.ReadBackLemmas.{fields_back}
use Rattle.strm_script_print.proofs.field.fields_are_read_back.Goals as goal

pub returns : goal.returns
returns c = fields_back
