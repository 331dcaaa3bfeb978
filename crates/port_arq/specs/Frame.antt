-- A frame of a data link as bytes.
use Rattle.std.specs.Prelude.{ℕ, ◌==◌, Option, Some, None, List, ◌∷◌, ◌++◌, if◌then◌else◌, length, take, drop, nat_le}
use Rattle.std.specs.List.{slice_get}
use Rattle.std.specs.Int.{w32, to_be_bytes, from_be_bytes}
use Rattle.port_arq.specs.declared.frame.Frame.{Frame}
use Rattle.port_arq.specs.declared.frame.Numbered.{Numbered}

-- the kind of a frame that acknowledges, and has no message
abbrev pub ack_kind : ℕ
ack_kind = 0

-- the kind of a frame that has a message, and acknowledges too
abbrev pub message_kind : ℕ
message_kind = 1

-- a number as four bytes, the greatest first
abbrev pub number_bytes : ℕ → List ℕ
number_bytes number = to_be_bytes w32 number

-- an acknowledgement: its kind, and the number of the message that is awaited; a message goes behind it with
-- its own number
abbrev pub bytes_with : ℕ → Option Numbered → List ℕ
bytes_with awaited None = ack_kind ∷ number_bytes awaited
bytes_with awaited (Some message) =
    message_kind ∷ (number_bytes awaited ++ (number_bytes message.number ++ message.bytes))

abbrev pub frame_bytes : Frame → List ℕ
frame_bytes frame = bytes_with frame.awaited frame.message

-- the number in the first four bytes
abbrev pub number_in : List ℕ → ℕ
number_in bytes = from_be_bytes w32 (take 4 bytes)

-- what is behind the kind of an acknowledgement: a number and no more
abbrev pub ack_in : List ℕ → Option Frame
ack_in bytes =
    if length bytes == 4 then Some (record { awaited = number_in bytes; message = None }) else None

-- what is behind the kind of a message: two numbers, and the bytes of the message, of which there may be none
abbrev pub message_in : List ℕ → Option Frame
message_in bytes =
    if nat_le 8 (length bytes) then Some (record {
      awaited = number_in bytes;
      message = Some (record { number = number_in (drop 4 bytes); bytes = drop 8 bytes });
    })
    else None

-- the frame that a kind and the bytes behind it are
abbrev pub of_kind : Option ℕ → List ℕ → Option Frame
of_kind None bytes = None
of_kind (Some kind) bytes =
    if kind == ack_kind then ack_in bytes else if kind == message_kind then message_in bytes else None

-- the frame that some bytes are; any others are no frame
abbrev pub frame_in : List ℕ → Option Frame
frame_in bytes = of_kind (slice_get bytes 0) (drop 1 bytes)
