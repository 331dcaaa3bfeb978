use Rattle.std.proofs.Common.{append_assoc, ap}
use Rattle.strm_msg.proofs.LoopLemmas.{rest_shorter}
use Rattle.strm_script_parse.proofs.MoreLemmas.{one_made}
use Rattle.strm_script_parse.proofs.making.processes.Goals as goal

pub loop-process-preserved : goal.loop-process-preserved
loop-process-preserved g c =
    let was = c.loop-process.invariant in
    let next = c.in-Some.ensures.steps.0 in
    record {
      left = rest_shorter _ _ _ _ _ was.left next c.in-Some.ensures.steps.1;
      rest = rw (append_assoc, ← next) was.rest;
      made = rw c.in_ok-push.ensures.items (one_made c.loop-process.made.items c.loop-process.yielded _ c.in-Some.process was.made (ap (λ calls. record { name = c.in-Some.process.name; calls = calls; expected = c.in-Some.process.expected; awaits = c.in-Some.process.awaits }) c.in_ok-calls.ensures));
    }
