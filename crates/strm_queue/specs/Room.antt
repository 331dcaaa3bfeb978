-- The number of messages of each rank that a queue takes without memory.
use Rattle.std.specs.Prelude.{ℕ, ◌+◌, ◌≤◌, List, map, slice_index, replicate, min}
use Rattle.std.specs.List.{range_with_len}
use Rattle.strm_queue.specs.Lanes.{Ranked, spare_of}

-- the number for each of the ranks 0 to 256, where it is the same for all of them (proofs alone cite it)
unfoldable pub same_room : ℕ → List ℕ
same_room n = replicate 257 n

-- the number for each of the ranks 0 to 256: the room of its lane, and at most the number that is left to the
-- queue
unfoldable pub lane_room : ℕ → List Ranked → List ℕ
lane_room left lanes = map (λ rank. min left (spare_of rank lanes)) (range_with_len 0 257)

-- the number for a rank, where a rank above 256, which no message has, counts as 256
abbrev pub room_for : List ℕ → ℕ → ℕ
room_for room rank = slice_index room (min rank 256)

-- no rank loses room
abbrev pub KeepsRoom : List ℕ → List ℕ → Type 0
KeepsRoom old new = (rank : ℕ) → room_for old rank ≤ room_for new rank

-- each rank loses room for one message at most
abbrev pub SpendsOne : List ℕ → List ℕ → Type 0
SpendsOne old new = (rank : ℕ) → room_for old rank ≤ room_for new rank + 1
