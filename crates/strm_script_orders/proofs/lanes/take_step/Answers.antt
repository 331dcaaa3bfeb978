use Rattle.std.proofs.Common.{◌+◌, List, ap, ◌∙◌, slice_set}
use Rattle.strm_script_orders.specs.Lanes.{LaneValue, at_start, steps_left}
use Rattle.strm_script_orders.proofs.LaneLemmas.{same_start, step_fewer, step_written}
use Rattle.strm_script_orders.proofs.lanes.take_step.Goals as goal

pub returns-clause-stepped : goal.returns-clause-stepped
returns-clause-stepped c =
    ap (λ (l : LaneValue). slice_set c.args.lanes.now c.args.number l) c.step.ensures
    ∙ step_written c.args.number c.args.lanes.now c.index-lanes-number.result c.requires.within

pub returns-clause-fewer : goal.returns-clause-fewer
returns-clause-fewer c =
    ap (λ (lanes : List LaneValue). steps_left lanes + 1) (ap (λ (l : LaneValue). slice_set c.args.lanes.now c.args.number l) c.step.ensures ∙ step_written c.args.number c.args.lanes.now c.index-lanes-number.result c.requires.within)
    ∙ step_fewer c.args.number c.args.lanes.now c.requires

pub returns-clause-same : goal.returns-clause-same
returns-clause-same c =
    ap at_start (ap (λ (l : LaneValue). slice_set c.args.lanes.now c.args.number l) c.step.ensures ∙ step_written c.args.number c.args.lanes.now c.index-lanes-number.result c.requires.within)
    ∙ same_start c.args.number c.args.lanes.now
