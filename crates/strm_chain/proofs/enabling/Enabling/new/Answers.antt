use Rattle.std.proofs.Common.{ap, refl}
use Rattle.strm_queue.specs.Run.{RunList}
use Rattle.strm_chain.proofs.enabling.Enabling.new.Goals as goal

pub invariant_of-result : goal.invariant_of-result
invariant_of-result c = (ap (λ (r : RunList). r.places) c.in_ok-run.ensures, refl)

pub returns : goal.returns
returns c = ap (λ (r : RunList). r.items) c.in_ok-run.ensures
