use Rattle.strm_queue.proofs.PlaceLemmas.{lane_at}
use Rattle.strm_queue.proofs.lanes.weight_at.Goals as goal

pub returns-in-Some-clause-value : goal.returns-in-Some-clause-value
returns-in-Some-clause-value c =
    let here = lane_at c.args.rank c.args.lanes.now c.in-Some.at c.index-lanes-at.result c.requires c.in-Some.ensures c.index-lanes-at.is in
    rw here c.weight.ensures.value

pub returns-in-Some-clause-most : goal.returns-in-Some-clause-most
returns-in-Some-clause-most c =
    let here = lane_at c.args.rank c.args.lanes.now c.in-Some.at c.index-lanes-at.result c.requires c.in-Some.ensures c.index-lanes-at.is in
    rw here c.weight.ensures.most
