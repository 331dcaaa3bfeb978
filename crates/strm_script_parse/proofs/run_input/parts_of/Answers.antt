use Rattle.std.proofs.Common.{append_assoc, map, ap, refl, ◌∙◌}
use Rattle.strm_msg.proofs.LoopLemmas.{rest_shorter}
use Rattle.strm_script_parse.proofs.MoreLemmas.{one_more, one_more_seen}
use Rattle.strm_script_parse.specs.Plan.{expected_view}
use Rattle.strm_script_parse.specs.RunInput.{replies_of, replies_view, streams_if}
use Rattle.strm_script_parse.proofs.run_input.parts_of.Goals as goal

pub loop-process-preserved : goal.loop-process-preserved
loop-process-preserved g c =
    let was = c.loop-process.invariant in
    let next = c.in-Some.ensures.steps.0 in
    record {
      left = rest_shorter _ _ _ _ _ was.left next c.in-Some.ensures.steps.1;
      rest = rw (append_assoc, ← next) was.rest;
      names = rw c.in_ok-push.ensures.items (one_more (λ process. process.name) c.loop-process.names.items c.loop-process.yielded _ c.in-Some.process was.names refl);
      calls = rw c.in_ok-push-2.ensures.items (one_more (λ process. process.calls) c.loop-process.scripts.items c.loop-process.yielded _ c.in-Some.process was.calls c.set_awaits.ensures);
      expected = rw c.in_ok-push-3.ensures.items (one_more_seen replies_view replies_of c.loop-process.all.items c.loop-process.yielded _ c.in-Some.process was.expected (ap (λ streams. record { streams = streams; expected = map expected_view c.in-Some.process.expected.items }) (c.in_ok-streams.ensures ∙ ap (λ expected. streams_if expected c.in-Some.process.calls) c.as_slice.ensures.value)));
    }
