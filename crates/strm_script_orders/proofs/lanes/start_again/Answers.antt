use Rattle.std.proofs.Common.{arith, ap, sym, ◌∙◌, slice_set}
use Rattle.std.proofs.lemmas.List.Edits.{map_over_more}
use Rattle.strm_script_orders.specs.Lanes.{LaneValue, as_before}
use Rattle.strm_script_orders.proofs.lanes.start_again.Goals as goal

pub loop-lane-preserved : goal.loop-lane-preserved
loop-lane-preserved c =
    let i = c.loop-lane.lane-index in
    let lane = c.lane-item.result in
    ap (λ (l : LaneValue). slice_set c.loop-lane.lanes i l) (c.start_again.ensures ∙ ap as_before (sym c.lane-item.is))
    ∙ map_over_more as_before c.args.lanes.now c.loop-lane.lanes i lane (omega arith) c.loop-lane.invariant c.lane-item.is
