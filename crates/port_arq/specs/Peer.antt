-- One end of a data link that numbers its messages, sends again what is not acknowledged, and takes each
-- message once. It goes back to the first message that waits when its timer runs out.
use Rattle.std.specs.Prelude.{ℕ, ◌+◌, ◌-◌, ◌==◌, ◌&&◌, nat_lt, nat_le, Bool, true, false, Option, Some, None, List, [], ◌∷◌, ◌++◌, if◌then◌else◌, length, drop}
use Rattle.std.specs.List.{slice_get}
use Rattle.port_arq.specs.declared.frame.Frame.{Frame}
use Rattle.port_arq.specs.declared.frame.Numbered.{Numbered}
use Rattle.port_arq.specs.declared.refusal.Refusal.{Refusal}
use Rattle.port_arq.specs.declared.refusal.Refusal.TheVariants.{WindowIsFull, NumbersAreUsed}
use Rattle.port_arq.specs.declared.peer.TheConstants.{MOST_MESSAGES}

-- ---- what an end knows

pub record PeerValue : Type 0 where
  -- the most messages that wait for an acknowledgement
  pub window : ℕ
  -- the ticks after which the timer runs out
  pub interval : ℕ
  -- how many messages were acknowledged, which is the number of the first one that waits
  pub acknowledged : ℕ
  -- the messages that wait for an acknowledgement, the oldest first
  pub waiting : List (List ℕ)
  -- how many of these were sent since the timer ran out
  pub sent : ℕ
  -- the ticks that the timer has run
  pub ticks : ℕ
  -- how many messages went up, which is the number of the next one that may
  pub awaited : ℕ
  -- whether a message came that no frame has acknowledged since
  pub owes : Bool

abbrev pub fresh : ℕ → ℕ → PeerValue
fresh window interval = record {
  window = window;
  interval = interval;
  acknowledged = 0;
  waiting = [];
  sent = 0;
  ticks = 0;
  awaited = 0;
  owes = false;
}

-- how many messages were handed down
abbrev pub used : PeerValue → ℕ
used peer = peer.acknowledged + length peer.waiting

-- whether each message that was handed down has been acknowledged
abbrev pub is_acknowledged : PeerValue → Bool
is_acknowledged peer = length peer.waiting == 0

-- ---- what is handed down

-- numbers do not go round, so an end that has used them all takes nothing more; this is looked at first, as
-- a window opens again
abbrev pub refusal : PeerValue → Option Refusal
refusal peer =
    if nat_le MOST_MESSAGES (used peer) then Some NumbersAreUsed
    else if nat_le peer.window (length peer.waiting) then Some WindowIsFull
    else None

abbrev pub handed_down : PeerValue → List ℕ → PeerValue
handed_down peer bytes = record peer { waiting = peer.waiting ++ bytes ∷ [] }

-- ---- what is sent

-- every frame acknowledges all that went up
abbrev pub acknowledgement : PeerValue → Frame
acknowledgement peer = record { awaited = peer.awaited; message = None }

abbrev pub carrying : PeerValue → List ℕ → Frame
carrying peer bytes = record {
  awaited = peer.awaited;
  message = Some (record { number = peer.acknowledged + peer.sent; bytes = bytes });
}

-- the first message that waits and was not sent since the timer ran out
abbrev pub unsent : PeerValue → Option (List ℕ)
unsent peer = slice_get peer.waiting peer.sent

-- such a message goes first; an acknowledgement goes by itself only where there is none
abbrev pub frame_of : PeerValue → Option (List ℕ) → Option Frame
frame_of peer (Some bytes) = Some (carrying peer bytes)
frame_of peer None = if peer.owes then Some (acknowledgement peer) else None

abbrev pub next_frame : PeerValue → Option Frame
next_frame peer = frame_of peer (unsent peer)

abbrev pub sent_on : PeerValue → Option (List ℕ) → PeerValue
sent_on peer (Some bytes) = record peer { sent = peer.sent + 1; owes = false }
sent_on peer None = record peer { owes = false }

-- the end after it sent its next frame
abbrev pub after_sending : PeerValue → PeerValue
after_sending peer = sent_on peer (unsent peer)

-- ---- what is heard

-- whether an acknowledgement is of messages that wait; it may be an old one, or of messages that nobody
-- handed down
abbrev pub is_news : PeerValue → ℕ → Bool
is_news peer awaited = nat_lt peer.acknowledged awaited && nat_le awaited (used peer)

-- the first messages wait no more, and the timer starts again
abbrev pub without_first : PeerValue → ℕ → PeerValue
without_first peer count = record peer {
  acknowledged = peer.acknowledged + count;
  waiting = drop count peer.waiting;
  sent = peer.sent - count;
  ticks = 0;
}

abbrev pub acknowledged_by : PeerValue → ℕ → PeerValue
acknowledged_by peer awaited =
    if is_news peer awaited then without_first peer (awaited - peer.acknowledged) else peer

-- whether a message is the next one that may go up
abbrev pub is_awaited : PeerValue → Numbered → Bool
is_awaited peer message = message.number == peer.awaited && nat_lt message.number MOST_MESSAGES

abbrev pub goes_up : PeerValue → Option Numbered → Option (List ℕ)
goes_up peer None = None
goes_up peer (Some message) = if is_awaited peer message then Some message.bytes else None

-- a message that comes again is acknowledged again, as the first acknowledgement may be lost
abbrev pub taken : PeerValue → Option Numbered → PeerValue
taken peer None = peer
taken peer (Some message) = record peer {
  awaited = if is_awaited peer message then peer.awaited + 1 else peer.awaited;
  owes = true;
}

-- what goes up of a frame, and the end after it heard the frame
abbrev pub heard_up : PeerValue → Frame → Option (List ℕ)
heard_up peer frame = goes_up peer frame.message

abbrev pub after_hearing : PeerValue → Frame → PeerValue
after_hearing peer frame = taken (acknowledged_by peer frame.awaited) frame.message

-- ---- time

-- the timer runs while a message that was sent waits for its acknowledgement; when it runs out, all that
-- waits is to be sent again
abbrev pub timed : PeerValue → ℕ → PeerValue
timed peer ticks =
    if peer.sent == 0 then peer
    else if nat_lt (peer.ticks + ticks) peer.interval then record peer { ticks = peer.ticks + ticks }
    else record peer { sent = 0; ticks = 0 }
