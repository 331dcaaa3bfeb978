use Rattle.std.proofs.Common.{nat_lt, [], sym, arith, rules}
use Rattle.std.proofs.lemmas.List.Sorted.{IsPartitionPoint-from_clause}
use Rattle.std.proofs.lemmas.List.Sums.{prefix_len_is}
use Rattle.strm_queue.specs.Lanes.{Ranked}
use Rattle.strm_queue.proofs.PlaceLemmas.{ranks_part}
use Rattle.strm_queue.proofs.lanes.place_of.Goals as goal

pub returns-clause-value : goal.returns-clause-value
returns-clause-value c =
    let above = λ (lane : Ranked). nat_lt c.args.rank lane.rank in
    let parted = ranks_part c.args.rank c.args.lanes.now c.requires in
    let point = IsPartitionPoint-from_clause above _ _ c.partition_point.ensures.partitioned parted (λ a r q k. search rules) in
    let none : Ranked = record { rank = 0; messages = []; spare = 0 } in
    sym (prefix_len_is above c.args.lanes.now c.partition_point.result none c.partition_point.ensures.bound (λ k less. point.0 k none (omega arith) less) (λ less. point.1 c.partition_point.result none (omega arith) less))
