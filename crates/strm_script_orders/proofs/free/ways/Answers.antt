use Rattle.std.proofs.Common.{◌^◌, ◌-◌, min, ap, ◌∙◌}
use Rattle.strm_script_orders.proofs.WaysLemmas.{ways_same}
use Rattle.strm_script_orders.proofs.free.ways.Goals as goal

pub returns-then-a-b : goal.returns-then-a-b
returns-then-a-b c = c.ways_of.ensures ∙ ap (λ n. min n (2 ^ 64 - 1)) (ways_same c.args.b c.args.a)
