use Rattle.std.proofs.Common.{◌≡◌, true, [], length, get_or, rules, arith, refl, ap, ◌∙◌}
use Rattle.strm_run_input.specs.Scripts.{calls_on, link_to}
use Rattle.strm_run_input.specs.Resolve.{is_worker_count}
use Rattle.strm_script_play.specs.Played.{may_have}
use Rattle.strm_script_play.proofs.FaultLemmas.{may_be, unless_false}
use Rattle.strm_script_parse.proofs.HandingLemmas.{all_there, setups_meet, feeds_meet, few_setups, few_scripts, script_calls}
use Rattle.strm_script_play.proofs.playing.play_plan.Goals as goal

pub run-requires-clause-few : goal.run-requires-clause-few
run-requires-clause-few g c κs within = (
  few_setups _ _ c.args.plan.streams.entries c.in_ok-names.ensures.setups c.requires.sound.few_streams (omega arith),
  few_scripts _ _ c.args.plan.processes.items c.in_ok-names.ensures.scripts c.requires.sound.few_processes (omega arith),
)

pub run-requires-clause-setups : goal.run-requires-clause-setups
run-requires-clause-setups g c κs within =
    rw c.in_ok-names.ensures.setups (setups_meet c.args.plan.streams.entries c.requires.sound.setups)

pub run-requires-clause-feeds : goal.run-requires-clause-feeds
run-requires-clause-feeds g c κs within =
    rw c.in_ok-names.ensures.feeds (feeds_meet c.args.plan.feeds.items c.requires.sound.messages)

pub returns-in_err-transcript-clause-fault : goal.returns-in_err-transcript-clause-fault
returns-in_err-transcript-clause-fault g c =
    let handed = c.in_ok-names.ensures in
    let sound = c.requires.sound in
    let there = all_there c.args.plan.streams.entries _ c.args.plan.processes.items c.args.plan.feeds.items c.args.plan.links.items handed.scripts sound.calls sound.lines sound.once sound.links in
    let ran = c.in_err-transcript.ensures in
    let told : may_have c.args.workers c.in_err-transcript.field-0.0 ≡ true = may_be c.args.workers c.in_err-transcript.field-0.0 _ refl ran.workers ran.no_such (rw (handed.setups, handed.feeds, handed.links) there) in
    search rules

pub returns-clause-workers : goal.returns-clause-workers
returns-clause-workers g c = unless_false (is_worker_count c.args.workers) (λ out. let told = c.in_ok-transcript.ensures.workers.1 out in absurd cc)

pub returns-clause-played : goal.returns-clause-played
returns-clause-played g c =
    let handed = c.in_ok-names.ensures in
    let ran = c.in_ok-transcript.ensures in
    let as_many = ap (λ l. length l) handed.setups in
    record {
      streams = handed.streams;
      names = handed.names;
      links = handed.named;
      expected = handed.expected;
      many = ran.many ∙ as_many;
      legal = λ k setup log under. rw (← handed.setups) (ran.legal k setup log (rw as_many under));
      calls = λ k caller log under. ran.calls k caller log (rw as_many under) ∙ ap (λ calls. calls_on k calls) (script_calls _ caller ∙ ap (λ all. get_or all caller []) handed.scripts);
      arrivals = λ k log under none. rw (← handed.feeds) (ran.arrivals k log (rw as_many under) (ap (λ l. link_to l k) handed.links ∙ none));
      carried = λ k link log under some. ran.links k link log (rw as_many under) (ap (λ l. link_to l k) handed.links ∙ some);
    }
