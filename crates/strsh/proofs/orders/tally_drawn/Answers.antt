use Rattle.std.proofs.Common.{ap}
use Rattle.strm_script_orders.specs.Tally.{TallyValue, tally_of}
use Rattle.strsh.proofs.orders.tally_drawn.Goals as goal

pub loop-seed-init : goal.loop-seed-init
unfolding tally_of
loop-seed-init g c = ap (λ (tally : TallyValue). tally.orders) c.new-tally.ensures
