use Rattle.std.proofs.Common.{refl}
use Rattle.strm_module.specs.Builtin.{builtin}
use Rattle.strm_chain_ends.proofs.TickLemmas.{ticks_change_nothing}
use Rattle.strm_chain_ends.proofs.laws.builtin_ask_for_no_ticks.Goals as goal

pub returns : goal.returns
returns c = ticks_change_nothing builtin (λ kind ticks. refl)
