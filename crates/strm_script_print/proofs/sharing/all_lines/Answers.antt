use Rattle.std.proofs.Common.{rules}
use Rattle.strm_script_parse.specs.Plan.{names_view}
use Rattle.strm_script_print.proofs.SharingLemmas.{logs_again, lines_made}
use Rattle.strm_script_print.proofs.sharing.all_lines.Goals as goal

-- the lines of each stream are what the thread that made them says
pub returns-clause-lines : goal.returns-clause-lines
returns-clause-lines g c =
    lines_made g.K.PrintKind.spelling (names_view c.args.names.now) c.args.logs.items c.in_ok-jobs.jobs.items c.in_ok-made.made.items c.in_ok-jobs.ensures (search rules) (λ k d below.
    let given = (c.in_ok-made.ensures.each k d below).1 in
    record { job = given.job; job_is = given.job_is; text = given.call.met.0; log = given.call.met.1 }) c.all_made.result c.all_made.ensures.made

-- each thread gives its log again
pub returns-clause-logs : goal.returns-clause-logs
returns-clause-logs g c =
    logs_again g.K.PrintKind.spelling (names_view c.args.names.now) c.args.logs.items c.in_ok-jobs.jobs.items c.in_ok-made.made.items c.in_ok-jobs.ensures (search rules) (λ k d below.
    let given = (c.in_ok-made.ensures.each k d below).1 in
    record { job = given.job; job_is = given.job_is; text = given.call.met.0; log = given.call.met.1 }) c.all_made.result c.all_made.ensures.again
