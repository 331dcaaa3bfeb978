use Rattle.std.proofs.Common.{ap, inl, inr}
use Rattle.strm_queue.specs.Lanes.{Ranked, IsPlace}
use Rattle.strm_queue.proofs.LanesLemmas.{lane_of-absent}
use Rattle.strm_queue.proofs.PlaceLemmas.{place_or_absent}
use Rattle.strm_queue.proofs.lanes.find.Goals as goal

pub returns-else-is_lane_at : goal.returns-else-is_lane_at
returns-else-is_lane_at c =
    elim (place_or_absent c.args.rank c.args.lanes.now c.requires) [
      | inl found ↦ let here : IsPlace c.args.rank c.place_of-at.result c.args.lanes.now = rw c.place_of-at.ensures.value found in (let both = c.if-is_lane_at.ensures.1 here in cc)
      | inr absent ↦ ap (λ (x : Ranked). x.messages) (lane_of-absent c.args.rank c.args.lanes.now absent)
    ]
