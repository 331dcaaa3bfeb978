use Rattle.std.proofs.Common.{rules}
use Rattle.strm_script_orders.specs.Tally.{tally_of}
use Rattle.strm_script_orders.proofs.tally.Tally.new.Goals as goal

pub returns : goal.returns
unfolding tally_of
returns c = search rules
