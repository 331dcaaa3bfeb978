use Rattle.std.proofs.Common.{◌^◌, ◌-◌, min, sym, ap, ◌∙◌}
use Rattle.strm_script_orders.specs.Free.{free_orders, is_free, lefts}
use Rattle.strm_script_orders.proofs.TreeLemmas.{orders_are_free}
use Rattle.strm_script_orders.proofs.lanes.Lanes.free_count.Goals as goal

pub returns-clause-count : goal.returns-clause-count
returns-clause-count c =
    let free = ap is_free (sym (c.as_slice.ensures.value ∙ c.self.view_is)) ∙ sym c.if-not-are_free.ensures in
    c.free_orders.ensures
    ∙ ap (λ lanes. min (free_orders (lefts lanes)) (2 ^ 64 - 1)) (c.as_slice-2.ensures.value ∙ c.self.view_is)
    ∙ ap (λ n. min n (2 ^ 64 - 1)) (sym (orders_are_free c.args.self.now free))
