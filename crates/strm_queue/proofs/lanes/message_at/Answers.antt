use Rattle.std.proofs.Common.{◌∙◌, ◌+◌, sym, ap, slice_get, drop, arith}
use Rattle.strm_queue.specs.Lanes.{messages_of}
use Rattle.strm_queue.proofs.ChangeLemmas.{slice_get-front, slice_get-behind, messages_of-drop}
use Rattle.strm_queue.proofs.lanes.message_at.Goals as goal

pub returns-then-left-len : goal.returns-then-left-len
returns-then-left-len c =
    let lane = c.lane-item.result in
    let split = messages_of-drop c.args.lanes.now c.loop-lane.lane-index lane (omega arith) c.lane-item.is in
    let front = slice_get-front lane.messages (messages_of (drop (c.loop-lane.lane-index + 1) c.args.lanes.now)) c.loop-lane.left (omega (arith, c.len.ensures)) in
    c.at.ensures ∙ sym front ∙ ap (λ q. slice_get q c.loop-lane.left) (sym split) ∙ sym c.loop-lane.invariant

pub loop-lane-preserved : goal.loop-lane-preserved
loop-lane-preserved c =
    let lane = c.lane-item.result in
    let split = messages_of-drop c.args.lanes.now c.loop-lane.lane-index lane (omega arith) c.lane-item.is in
    c.loop-lane.invariant ∙ ap (λ q. slice_get q c.loop-lane.left) split ∙ slice_get-behind lane.messages (messages_of (drop (c.loop-lane.lane-index + 1) c.args.lanes.now)) c.loop-lane.left _ (omega (arith, c.len.ensures, c.len-left.ensures))
