use Rattle.std.proofs.Common.{ap}
use Rattle.strm_script_orders.specs.Tally.{TallyValue, tally_of}
use Rattle.strsh.proofs.orders.tally_listed.Goals as goal

pub loop-init : goal.loop-init
unfolding tally_of
loop-init g c = ap (λ (tally : TallyValue). tally.orders) c.new-tally.ensures
