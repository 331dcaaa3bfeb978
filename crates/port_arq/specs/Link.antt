-- Two ends and any link between them. The link may lose, double, delay and reorder what is sent: an end hears
-- any frame that the other end ever sent, any number of times, or never.
use Rattle.std.specs.Prelude.{ℕ, Option, Some, None, List, [], ◌∷◌, ◌++◌, option_to_list}
use Rattle.std.specs.List.{slice_get}
use Rattle.port_arq.specs.declared.frame.Frame.{Frame}
use Rattle.port_arq.specs.declared.refusal.Refusal.{Refusal}
use Rattle.port_arq.specs.Peer.{PeerValue, fresh, refusal, handed_down, next_frame, after_sending, heard_up, after_hearing, timed}

-- an end, and what has happened at it
pub record Side : Type 0 where
  pub peer : PeerValue
  -- all messages that were handed down and taken, in order
  pub handed : List (List ℕ)
  -- all frames that were sent, in order
  pub frames : List Frame
  -- all messages that went up, in order
  pub raised : List (List ℕ)

abbrev pub opened : ℕ → ℕ → Side
opened window interval =
    record { peer = fresh window interval; handed = []; frames = []; raised = [] }

-- what may happen at an end
pub data Act : Type 0 where
  -- a message is handed down
  HandDown : List ℕ → Act
  -- the next frame is sent, if there is one
  Send : Act
  -- the frame with this index is heard, of all that the other end ever sent
  Hear : ℕ → Act
  -- so many ticks pass
  Tick : ℕ → Act

-- a message is taken unless it is refused
abbrev pub with_message : Side → List ℕ → Option Refusal → Side
with_message side bytes None =
    record side { peer = handed_down side.peer bytes; handed = side.handed ++ bytes ∷ [] }
with_message side bytes (Some why) = side

abbrev pub with_frame : Side → Side
with_frame side = record side {
  peer = after_sending side.peer;
  frames = side.frames ++ option_to_list (next_frame side.peer);
}

abbrev pub with_heard : Side → Option Frame → Side
with_heard side None = side
with_heard side (Some frame) = record side {
  peer = after_hearing side.peer frame;
  raised = side.raised ++ option_to_list (heard_up side.peer frame);
}

-- an end after something happened, where the other end has sent these frames
abbrev pub acted : Side → List Frame → Act → Side
acted side frames (HandDown bytes) = with_message side bytes (refusal side.peer)
acted side frames Send = with_frame side
acted side frames (Hear index) = with_heard side (slice_get frames index)
acted side frames (Tick ticks) = record side { peer = timed side.peer ticks }

pub record Link : Type 0 where
  pub near : Side
  pub far : Side

-- what may happen: something at either end
pub data Event : Type 0 where
  AtNear : Act → Event
  AtFar : Act → Event

abbrev pub after : Link → Event → Link
after link (AtNear act) = record link { near = acted link.near link.far.frames act }
after link (AtFar act) = record link { far = acted link.far link.near.frames act }

abbrev pub after_all : Link → List Event → Link
after_all link [] = link
after_all link (event ∷ events) = after_all (after link event) events

-- two ends after some events
abbrev pub reached : Side → Side → List Event → Link
reached near far events = after_all (record { near = near; far = far }) events
