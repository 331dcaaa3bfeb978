-- Room by the lanes.
use Rattle.std.proofs.Common.{◌≡◌, ℕ, ◌+◌, ◌<◌, ◌≤◌, List, min, subst, arith}
use Rattle.std.proofs.lemmas.List.FromFn.{get_or-map-range_with_len}
use Rattle.strm_queue.specs.Lanes.{Ranked, spare_of}
use Rattle.strm_queue.specs.Room.{lane_room, room_for}

-- what a lane has room for, and what is left to the queue at most
pub room_for-lane_room : (left rank : ℕ) (lanes : List Ranked) → room_for (lane_room left lanes) rank ≡ min left (spare_of (min rank 256) lanes)
unfolding lane_room
room_for-lane_room left rank lanes = get_or-map-range_with_len (λ r. min left (spare_of r lanes)) 0 257 (min rank 256) (min rank 256) 0 (omega arith) (omega arith)

-- room that falls by no more than so many
pub room-le : (lost left after : ℕ) (lanes later : List Ranked) → left ≤ after + lost → ((other : ℕ) → spare_of other lanes ≤ spare_of other later + lost) → (rank : ℕ) → room_for (lane_room left lanes) rank ≤ room_for (lane_room after later) rank + lost
room-le lost left after lanes later le spare rank = rw (room_for-lane_room left rank lanes, room_for-lane_room after rank later) (omega (arith, le, spare (min rank 256)))

-- no less room
pub room-kept : (left after : ℕ) (lanes later : List Ranked) → left ≤ after → ((other : ℕ) → spare_of other lanes ≤ spare_of other later) → (rank : ℕ) → room_for (lane_room left lanes) rank ≤ room_for (lane_room after later) rank
room-kept left after lanes later le spare rank = rw (room_for-lane_room left rank lanes, room_for-lane_room after rank later) (omega (arith, le, spare (min rank 256)))

-- room for a rank is left to the queue, and its lane has it
pub room-some : (left rank : ℕ) (lanes : List Ranked) → 0 < room_for (lane_room left lanes) rank → (0 < left) × (0 < spare_of (min rank 256) lanes)
room-some left rank lanes some =
    let both = rw (room_for-lane_room left rank lanes) at some in
    (omega (arith, both), omega (arith, both))

-- a rank that a message has is not cut
pub spare-capped : (rank : ℕ) (lanes : List Ranked) → rank ≤ 256 → 0 < spare_of (min rank 256) lanes → 0 < spare_of rank lanes
spare-capped rank lanes le some = let same : min rank 256 ≡ rank = omega (arith, le) in subst (λ r. 0 < spare_of r lanes) same some

-- what is left to the queue and spare in the lane is room
pub room-made : (left rank cut : ℕ) (lanes : List Ranked) → cut ≡ min rank 256 → 0 < left → 0 < spare_of cut lanes → 0 < room_for (lane_room left lanes) rank
room-made left rank cut lanes is some spare =
    let here : 0 < spare_of (min rank 256) lanes = subst (λ r. 0 < spare_of r lanes) is spare in
    rw (room_for-lane_room left rank lanes) (omega (arith, some, here))
