use Rattle.std.proofs.Common.{ℕ, append_assoc}
use Rattle.strm_msg.proofs.LoopLemmas.{rest_shorter}
use Rattle.strm_run_callers.proofs.DealLemmas.{dealt_more}
use Rattle.strm_run_callers.proofs.dealing.deal.Goals as goal

pub loop-player-preserved : goal.loop-player-preserved
loop-player-preserved g c =
    let was = c.loop-player.invariant in
    let next = c.in-Some.ensures.steps.0 in
    record {
      left = rest_shorter _ _ _ _ _ was.left next c.in-Some.ensures.steps.1;
      rest = rw (append_assoc {A = ℕ}, ← next) was.rest;
      dealt = rw c.caller.ensures (dealt_more c.loop-player.yielded c.in-Some.player c.args.workers c.loop-player.crews.items c.index_mut.result.now c.push.new.self c.requires was.dealt (rw c.caller.ensures at c.index_mut.ensures.value) c.in_ok-push.ensures.items);
    }
