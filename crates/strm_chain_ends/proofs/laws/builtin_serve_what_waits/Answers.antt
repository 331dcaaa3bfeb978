use Rattle.strm_module.specs.Builtin.{builtin_acts, builtin_answers}
use Rattle.strm_chain_ends.proofs.ServingLemmas.{serves_what_waits}
use Rattle.strm_chain_ends.proofs.laws.builtin_serve_what_waits.Goals as goal

pub returns : goal.returns
returns c = serves_what_waits builtin_acts builtin_answers
