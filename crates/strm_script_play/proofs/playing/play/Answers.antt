use Rattle.std.proofs.Common.{rules}
use Rattle.strm_script_play.specs.Played.{IsFaultOfRun}
use Rattle.strm_script_play.proofs.playing.play.Goals as goal

pub returns-in_err-play_plan-clause-fault : goal.returns-in_err-play_plan-clause-fault
returns-in_err-play_plan-clause-fault g c =
    let told : IsFaultOfRun g.M.Kind.ReadKind.words c.args.bytes.now c.args.workers c.in_err-play_plan.field-0.0 = record { plan = c.in_ok-plan.plan; spells = c.in_ok-plan.ensures.spells; may = c.in_err-play_plan.ensures.fault } in
    search rules
