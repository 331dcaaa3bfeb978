use Rattle.std.proofs.Common.{arith}
use Rattle.strm_queue.proofs.LaneLemmas.{light_sum}
use Rattle.strm_queue.proofs.lane.Lane.weight.Goals as goal

pub returns-clause-most : goal.returns-clause-most
returns-clause-most c =
    let light = light_sum c.self.inside.messages.items c.self.invariant.1 in
    rw (← c.self.view_is) (omega (arith, light, c.self.invariant.0))
