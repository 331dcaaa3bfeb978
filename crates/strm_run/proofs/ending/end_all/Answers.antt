use Rattle.std.proofs.Common.{rules}
use Rattle.strm_run.proofs.EndingLemmas.{logs_left}
use Rattle.strm_run.proofs.RunLemmas.{if_ok}
use Rattle.strm_run.proofs.ending.end_all.Goals as goal

-- what the work leaves of a stream is what ending it leaves
pub returns-clause-left : goal.returns-clause-left
returns-clause-left g c =
    if_ok _ _ c.logs_of.result (λ logs all. logs_left g.M.Kind.Kinds.means g.N.RunName.run c.args.due.items c.in_ok-ended.ended.items logs.items (search rules) (λ k d below. let one = (c.in_ok-ended.ensures.each k d below).1 in (one.job, one.job_read, one.call.met.0)) all) c.logs_of.ensures.logs
