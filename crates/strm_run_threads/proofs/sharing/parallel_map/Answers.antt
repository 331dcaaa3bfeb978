use Rattle.std.proofs.Common.{rules, ◌∙◌, ap, length}
use Rattle.strm_run_threads.proofs.TurnsLemmas.{all_given, all_ready, all_written}
use Rattle.strm_run_threads.proofs.sharing.parallel_map.Goals as goal

-- each is to be done, as `job_slots` says
pub run_jobs-requires-clause-ready : goal.run_jobs-requires-clause-ready
run_jobs-requires-clause-ready g c κs within =
    all_ready g.F.Fn c.args.work.now c.args.jobs.items c.as_mut_slice.result.now c.requires.work (c.as_mut_slice.ensures.value ∙ c.in_ok-turns.ensures)

-- all turns were written anew
pub returns-clause-each : goal.returns-clause-each
returns-clause-each g c =
    let written = all_written c.in_ok-turns.turns.len c.in_ok-turns.turns.items c.run_jobs.new.turns (c.run_jobs.ensures.many ∙ ap (λ l. length l) c.as_mut_slice.ensures.value) (search rules) in
    all_given g.F.Fn c.args.work.now c.args.jobs.items c.all_results.result.items c.as_mut_slice.result.now c.run_jobs.new.turns (c.as_mut_slice.ensures.value ∙ c.in_ok-turns.ensures) c.run_jobs.ensures (c.all_results.ensures ∙ written)
