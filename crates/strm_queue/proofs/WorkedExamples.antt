-- The definitions of queues, computed on worked examples.
use Rattle.std.proofs.Common.{◌≡◌, ℕ, true, false, List, [], ◌∷◌, Some, None, replicate, refl}
use Rattle.strm_msg.specs.Message.{Msg, data_msg, proto_msg, pcproto_msg, ioctl_msg, weight_of}
use Rattle.strm_msg.specs.Marks.{WaterMarks}
use Rattle.strm_queue.specs.Queue.{put_in, put_back_in, behind_last, flush_of, flush_band_of, held_of, is_full, is_slack, has_band}
use Rattle.strm_queue.specs.Room.{same_room, room_for}

-- messages of one byte: one of band 0, three of band 3, and a high one
abbrev in_band_0 : Msg
in_band_0 = data_msg 0 (97 ∷ [])

abbrev in_band_3 : ℕ → Msg
in_band_3 byte = data_msg 3 (byte ∷ [])

abbrev high : Msg
high = pcproto_msg (104 ∷ []) None

-- put one after another into an empty queue
abbrev four : List Msg
four = put_in (put_in (put_in (put_in [] in_band_0) (in_band_3 98)) high) (in_band_3 99)

-- the high one first, then band 3 in order of arrival, then band 0
four_in_order : four ≡ high ∷ in_band_3 98 ∷ in_band_3 99 ∷ in_band_0 ∷ []
four_in_order = refl

behind_last_in_order : behind_last (high ∷ in_band_3 98 ∷ in_band_0 ∷ []) (in_band_3 99) ≡ four
behind_last_in_order = refl

-- put back, a message stands before those of its band
put_back_in_front : put_back_in four (in_band_3 122) ≡ high ∷ in_band_3 122 ∷ in_band_3 98 ∷ in_band_3 99 ∷ in_band_0 ∷ []
put_back_in_front = refl

held_in_band_3 : held_of (put_back_in four (in_band_3 122)) 3 ≡ 3
held_in_band_3 = refl

-- the high message counts for band 0
held_in_band_0 : held_of (put_back_in four (in_band_3 122)) 0 ≡ 2
held_in_band_0 = refl

flush_of_band_3 : flush_band_of 3 (put_back_in four (in_band_3 122)) ≡ high ∷ in_band_0 ∷ []
flush_of_band_3 = refl

flush_of_all : flush_of (high ∷ in_band_0 ∷ []) ≡ []
flush_of_all = refl

ioctl_is_not_flushed : flush_of (ioctl_msg 1 2 None ∷ []) ≡ ioctl_msg 1 2 None ∷ []
ioctl_is_not_flushed = refl

weight_of_both_parts : weight_of (proto_msg 3 (99 ∷ []) (Some (100 ∷ []))) ≡ 2
weight_of_both_parts = refl

-- a message without bytes counts as one byte
weight_of_no_bytes : weight_of (data_msg 0 []) ≡ 1
weight_of_no_bytes = refl

-- marks 16 and 4, with so many bytes in band 0
abbrev marks : WaterMarks
marks = record { hi = 16; lo = 4 }

abbrev holding : ℕ → List Msg
holding n = data_msg 0 (replicate n 97) ∷ []

slack_at_4 : is_slack marks (holding 4) 0 ≡ true
slack_at_4 = refl

not_slack_at_5 : is_slack marks (holding 5) 0 ≡ false
not_slack_at_5 = refl

not_full_at_15 : is_full marks (holding 15) 0 ≡ false
not_full_at_15 = refl

full_at_16 : is_full marks (holding 16) 0 ≡ true
full_at_16 = refl

other_band_not_full : is_full marks (holding 16) 1 ≡ false
other_band_not_full = refl

band_3_is_there : has_band four 3 ≡ true
band_3_is_there = refl

-- a high message is of no band that is asked for
no_band_of_a_high_message : has_band (high ∷ []) 0 ≡ false
no_band_of_a_high_message = refl

-- a rank that no message has counts as 256
room_above_256 : room_for (same_room 2) 65535 ≡ room_for (same_room 2) 256
room_above_256 = refl
