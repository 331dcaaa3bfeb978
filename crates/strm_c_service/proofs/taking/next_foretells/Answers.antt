use Rattle.strm_c_service.proofs.TakingLemmas.{next_is}
use Rattle.strm_c_service.proofs.taking.next_foretells.Goals as goal

pub returns : goal.returns
returns c = λ old new e answer step fits. next_is old new e answer step fits
