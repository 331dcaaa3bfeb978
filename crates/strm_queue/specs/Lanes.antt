-- A queue kept as one list for each rank. No public clause cites the definitions here.
use Rattle.std.specs.Prelude.{◌≡◌, ℕ, ◌+◌, ◌^◌, ◌==◌, ◌<◌, ◌≤◌, ◌&&◌, not, nat_lt, Bool, true, List, [], ◌∷◌, length, take, if◌then◌else◌, slice_index_or, filter, sum_by}
use Rattle.std.specs.List.{list_all, flat_map, prefix_len}
use Rattle.strm_msg.specs.Message.{Msg, weight_of}
use Rattle.strm_msg.specs.Kind.{is_high}
use Rattle.strm_queue.specs.Queue.{is_flushed}

-- the messages of one rank in order, and the number of further ones for which there is room
pub record Ranked : Type 0 where
  pub rank : ℕ
  pub messages : List Msg
  pub spare : ℕ

-- the high messages are in the lane of rank 256, and the ordinary ones in that of their band
abbrev pub is_of_rank : ℕ → Msg → Bool
is_of_rank rank m = if is_high m.kind then rank == 256 else (nat_lt rank 256 && (m.band == rank))

-- greatest rank first, and each message in the lane of its rank
abbrev pub is_laned : List Ranked → Bool
is_laned [] = true
is_laned (lane ∷ lanes) = list_all (is_of_rank lane.rank) lane.messages && (list_all (λ other. nat_lt other.rank lane.rank) lanes && is_laned lanes)

-- the messages of the lanes, one lane after another
abbrev pub messages_of : List Ranked → List Msg
messages_of lanes = flat_map (λ lane. lane.messages) lanes

-- the number of the messages of the lanes
abbrev pub total_len : List Ranked → ℕ
total_len lanes = length (messages_of lanes)

-- the lane of a rank, an empty one where there is none
abbrev pub lane_of : ℕ → List Ranked → Ranked
lane_of rank [] = record { rank = rank; messages = []; spare = 0 }
lane_of rank (lane ∷ lanes) = if lane.rank == rank then lane else lane_of rank lanes

-- the messages of one rank
abbrev pub messages_of_rank : ℕ → List Ranked → List Msg
messages_of_rank rank lanes = (lane_of rank lanes).messages

-- the number of messages of a rank for which its lane still has room
abbrev pub spare_of : ℕ → List Ranked → ℕ
spare_of rank lanes = (lane_of rank lanes).spare

-- the number of lanes before the place of a rank
abbrev pub place_of : ℕ → List Ranked → ℕ
place_of rank lanes = prefix_len (λ lane. nat_lt rank lane.rank) lanes

-- the lane of a rank is there
abbrev pub IsPlace : ℕ → ℕ → List Ranked → Type 0
IsPlace rank at lanes = (at < length lanes) × ((d : Ranked) → (slice_index_or lanes at d).rank ≡ rank)

-- no lane before the n-th has a message
abbrev pub IsEmptyBefore : ℕ → List Ranked → Type 0
IsEmptyBefore n lanes = messages_of (take n lanes) ≡ []

-- as many lanes at the front have no message as had none
abbrev pub StaysEmpty : List Ranked → List Ranked → Type 0
StaysEmpty old new = (n : ℕ) → IsEmptyBefore n old → IsEmptyBefore n new

-- the n-th lane is the first that has a message
abbrev pub IsFirstFilled : ℕ → List Ranked → Type 0
IsFirstFilled n lanes =
    (n < length lanes) × IsEmptyBefore n lanes × ((d : Ranked) → 0 < length (slice_index_or lanes n d).messages)

-- no lane loses room
abbrev pub KeepsSpare : List Ranked → List Ranked → Type 0
KeepsSpare old new = (rank : ℕ) → spare_of rank old ≤ spare_of rank new

-- each lane loses room for one message at most
abbrev pub SpendsOneSpare : List Ranked → List Ranked → Type 0
SpendsOneSpare old new = (rank : ℕ) → spare_of rank old ≤ spare_of rank new + 1

-- the messages that a flush of one rank leaves
abbrev pub flush_rank_of : ℕ → List Msg → List Msg
flush_rank_of rank q = filter (λ m. not (is_flushed m.kind && is_of_rank rank m)) q

-- no message weighs as much as 2 ^ 65
abbrev pub is_light : Msg → Bool
is_light m = nat_lt (weight_of m) (2 ^ 65)

-- the weight is that of the messages together, and each is light
abbrev pub AreWeighed : List Msg → ℕ → Type 0
AreWeighed messages weight = (weight ≡ sum_by weight_of messages) × (list_all is_light messages ≡ true)

-- the lanes of a queue, the number of those at the front that are known to be empty, and the number of its
-- messages, which is below 2 ^ 63
pub record IsQueue (lanes : List Ranked) (front count : ℕ) : Type 0 where
  pub laned : is_laned lanes ≡ true
  pub empty : IsEmptyBefore front lanes
  pub counted : count ≡ total_len lanes
  pub most : count < 2 ^ 63
