use Rattle.strm_c_numbers.proofs.ReturnLemmas.{returns as whole_returns}
use Rattle.strm_c_numbers.proofs.whole.whole_returns.Goals as goal

pub returns : goal.returns
returns c = λ m formed fits small. whole_returns m formed fits small
