use Rattle.strm_module.proofs.CalmLemmas.{builtin_calm}
use Rattle.strm_module.proofs.laws.builtin_are_calm.Goals as goal

pub returns : goal.returns
returns c = builtin_calm
