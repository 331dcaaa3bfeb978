use Rattle.std.proofs.Common.{rules}
use Rattle.strm_shared_ended.proofs.ArrivalLemmas.{arrivals_few}
use Rattle.strm_shared_ended.proofs.left.log_of.Goals as goal

pub overflow_add-result : goal.overflow_add-result
overflow_add-result g c =
    let few = arrivals_few c.into_parts-history.result.0.items in
    let ok = c.into_parts-history.result.0.ok in
    let small = c.into_parts-history.result.0.small in
    let also_ok = c.into_parts-history.result.2.ok in
    let also_small = c.into_parts-history.result.2.small in
    search rules
