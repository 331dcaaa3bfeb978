use Rattle.std.proofs.Common.{ap, ◌∙◌}
use Rattle.strm_run_callers.specs.Steps.{caller_of}
use Rattle.strm_run.proofs.StepLemmas.{back_in_place}
use Rattle.strm_run.proofs.steps.step_caller.Goals as goal

pub returns : goal.returns
returns g c =
    let same = c.in_ok-after.ensures ∙ ap (caller_of {M = g.row.M.Denot} {N = g.row.N.Denot} {K = g.row.M-Kind.Denot}) c.remove.ensures.value in
    rw (c.in_ok-insert.ensures.items, c.remove.ensures.items) (back_in_place (caller_of {M = g.row.M.Denot} {N = g.row.N.Denot} {K = g.row.M-Kind.Denot}) c.args.callers.now.items c.args.at c.remove.result c.in_ok-after.after c.requires.there same)
