use Rattle.std.proofs.Common.{sym, ◌∙◌}
use Rattle.strm_run.proofs.EndingLemmas.{are_logs}
use Rattle.strm_run.proofs.ending.finish.Goals as goal

pub returns-clause-logs : goal.returns-clause-logs
returns-clause-logs g c =
    are_logs g.M.Kind.Kinds.means g.N.RunName.run c.in_ok-due.due.items c.in_ok-logs.logs.items c.in-Ok.accounts.items c.in-Ok.results.items c.in_ok-logs.ensures.left c.in_ok-due.ensures.streams c.in_ok-due.ensures.parts c.in-Ok.ensures.results (c.in-Ok.ensures.many ∙ sym c.requires.many) c.in-Ok.ensures.seats c.requires.lines c.requires.linked
