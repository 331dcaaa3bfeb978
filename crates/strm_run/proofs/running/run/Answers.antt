use Rattle.std.proofs.Common.{◌∙◌, get_or, refl, rules, subst, sym}
use Rattle.strm_run_callers.specs.Play.{Fits}
use Rattle.strm_run_callers.specs.Transcript.{offered_by, IsFed}
use Rattle.strm_run.proofs.RunLemmas.{any_setup, if_ok, none_such}
use Rattle.strm_run.proofs.running.run.Goals as goal

pub returns-then-not-names_resolve-clause-no_such : goal.returns-then-not-names_resolve-clause-no_such
returns-then-not-names_resolve-clause-no_such g c =
    let are = rw (c.as_slice.ensures.value, c.as_slice-2.ensures.value, c.as_slice-3.ensures.value, c.as_slice-4.ensures.value) at c.names_resolve.ensures in
    ((λ is. (sym c.is_worker_count.ensures ∙ c.if-not-is_worker_count.false, λ there. absurd (cc (are.1 there, c.if-not-names_resolve.true)))), (λ all. refl))

pub run_named-requires-clause-fits : goal.run_named-requires-clause-fits
unfolding Fits
run_named-requires-clause-fits g c κs within = c.requires.fits

pub run_named-requires-clause-input : goal.run_named-requires-clause-input
run_named-requires-clause-input g c κs within =
    let are = rw (c.as_slice.ensures.value, c.as_slice-2.ensures.value, c.as_slice-3.ensures.value, c.as_slice-4.ensures.value) at c.names_resolve.ensures in
    let there = are.0 c.if-not-names_resolve.false in
    search rules

pub returns-clause-no_such : goal.returns-clause-no_such
returns-clause-no_such g c =
    let are = rw (c.as_slice.ensures.value, c.as_slice-2.ensures.value, c.as_slice-3.ensures.value, c.as_slice-4.ensures.value) at c.names_resolve.ensures in
    ((λ is. none_such c.run_named.result c.run_named.ensures.late is), (λ all. absurd (all.1 (are.0 c.if-not-names_resolve.false))))

pub returns-clause-many : goal.returns-clause-many
returns-clause-many g c = if_ok _ _ c.run_named.result (λ t logs. logs.many) c.run_named.ensures.logs

pub returns-clause-legal : goal.returns-clause-legal
returns-clause-legal g c = if_ok _ _ c.run_named.result (λ t logs k s d below. (logs.each k s d below).legal) c.run_named.ensures.logs

pub returns-clause-calls : goal.returns-clause-calls
returns-clause-calls g c = if_ok _ _ c.run_named.result (λ t logs k caller d below. (logs.each k any_setup d below).calls caller) c.run_named.ensures.logs

pub returns-clause-arrivals : goal.returns-clause-arrivals
returns-clause-arrivals g c =
    if_ok _ _ c.run_named.result (λ t logs k d below none. subst (λ found. IsFed (offered_by (record { setups = c.args.setups.items; scripts = c.args.scripts.items; feeds = c.args.feeds.items; links = c.args.links.items }) t.streams.items k found) (get_or t.streams.items k d)) none (logs.fed k d below)) c.run_named.ensures.logs

pub returns-clause-links : goal.returns-clause-links
returns-clause-links g c =
    if_ok _ _ c.run_named.result (λ t logs k link d below some. subst (λ found. IsFed (offered_by (record { setups = c.args.setups.items; scripts = c.args.scripts.items; feeds = c.args.feeds.items; links = c.args.links.items }) t.streams.items k found) (get_or t.streams.items k d)) some (logs.fed k d below)) c.run_named.ensures.logs
