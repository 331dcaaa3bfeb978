use Rattle.std.proofs.Common.{◌≡◌, ◌∙◌, List, [], ap, sym}
use Rattle.strm_msg.specs.Message.{Msg}
use Rattle.strm_queue.specs.Queue.{has_pcproto, is_pcproto}
use Rattle.strm_queue.specs.Lanes.{Ranked, IsPlace, is_of_rank, messages_of, messages_of_rank}
use Rattle.strm_queue.proofs.StandLemmas.{found-in, pcproto_stands}
use Rattle.strm_queue.proofs.LanesLemmas.{lanes_filter}
use Rattle.strm_queue.proofs.PlaceLemmas.{lane_at}
use Rattle.strm_queue.proofs.queue.BandQueue.has_pcproto.Goals as goal

pub returns-in-Some : goal.returns-in-Some
returns-in-Some c =
    let lanes = c.self.inside.lanes.items in
    let lane = c.index.result.now in
    let place : IsPlace 256 c.in-Some.at lanes = rw (← c.as_slice.ensures.value) c.in-Some.ensures in
    let here : messages_of_rank 256 lanes ≡ lane.messages = ap (λ (x : Ranked). x.messages) (lane_at 256 lanes c.in-Some.at lane c.self.invariant.laned place c.index.ensures) in
    let found : has_pcproto lane.messages ≡ has_pcproto (messages_of lanes) = ap (λ (q : List Msg). has_pcproto q) (sym (lanes_filter 256 lanes c.self.invariant.laned ∙ here)) ∙ found-in (λ (m : Msg). is_pcproto m.kind) (is_of_rank 256) (messages_of lanes) pcproto_stands in
    rw (← c.self.view_is) (c.has_pcproto.ensures ∙ found)

pub returns-in-None : goal.returns-in-None
returns-in-None c =
    let lanes = c.self.inside.lanes.items in
    let here : messages_of_rank 256 lanes ≡ [] = rw (← c.as_slice.ensures.value) c.in-None.ensures in
    let found : has_pcproto [] ≡ has_pcproto (messages_of lanes) = ap (λ (q : List Msg). has_pcproto q) (sym (lanes_filter 256 lanes c.self.invariant.laned ∙ here)) ∙ found-in (λ (m : Msg). is_pcproto m.kind) (is_of_rank 256) (messages_of lanes) pcproto_stands in
    rw (← c.self.view_is) found
