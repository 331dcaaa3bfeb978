use Rattle.std.proofs.Common.{arith}
use Rattle.strm_queue.proofs.LaneLemmas.{light_sum}
use Rattle.strm_queue.proofs.lane.Lane.push_back.Goals as goal

pub overflow_add-weight : goal.overflow_add-weight
overflow_add-weight c =
    let light = light_sum c.self.inside.messages.items c.self.invariant.1 in
    omega (arith, light, c.self.invariant.0)
