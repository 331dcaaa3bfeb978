use Rattle.std.proofs.Common.{◌≡◌, ◌==◌, ◌∙◌, List, [], not, ap, sym, length, arith}
use Rattle.strm_msg.specs.Message.{Msg}
use Rattle.strm_queue.specs.Queue.{has_band}
use Rattle.strm_queue.specs.Lanes.{Ranked, IsPlace, messages_of, messages_of_rank}
use Rattle.strm_queue.proofs.StandLemmas.{has-band}
use Rattle.strm_queue.proofs.LanesLemmas.{lanes_filter}
use Rattle.strm_queue.proofs.PlaceLemmas.{lane_at}
use Rattle.strm_queue.proofs.queue.BandQueue.has_band.Goals as goal

pub returns-in-Some : goal.returns-in-Some
returns-in-Some c =
    let lanes = c.self.inside.lanes.items in
    let band = c.args.band in
    let lane = c.index.result.now in
    let place : IsPlace band c.in-Some.at lanes = rw (← c.as_slice.ensures.value, ← c.from.ensures) c.in-Some.ensures in
    let here : messages_of_rank band lanes ≡ lane.messages = ap (λ (x : Ranked). x.messages) (lane_at band lanes c.in-Some.at lane c.self.invariant.laned place c.index.ensures) in
    let found : has_band (messages_of lanes) band ≡ not (length lane.messages == 0) = has-band band (messages_of lanes) (omega arith) ∙ ap (λ (q : List Msg). not (length q == 0)) (lanes_filter band lanes c.self.invariant.laned ∙ here) in
    rw (← c.self.view_is, c.is_empty.ensures) (sym found)

pub returns-in-None : goal.returns-in-None
returns-in-None c =
    let lanes = c.self.inside.lanes.items in
    let band = c.args.band in
    let here : messages_of_rank band lanes ≡ [] = rw (← c.as_slice.ensures.value, ← c.from.ensures) c.in-None.ensures in
    let found = has-band band (messages_of lanes) (omega arith) ∙ ap (λ (q : List Msg). not (length q == 0)) (lanes_filter band lanes c.self.invariant.laned ∙ here) in
    rw (← c.self.view_is) (sym found)
