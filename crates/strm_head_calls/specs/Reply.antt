-- Replies (streamio(7), getmsg(2)).
use Rattle.std.specs.Prelude.{Bool, true, false, Option, Some, None, if◌then◌else◌}
use Rattle.strm_msg.specs.Kind.{is_high}
use Rattle.strm_msg.specs.Message.{Msg}
use Rattle.strm_msg.specs.declared.kind.MsgKind.{MsgKind}
use Rattle.strm_msg.specs.declared.kind.MsgKind.TheVariants.{MIocack, MIocnak}
use Rattle.strm_head_calls.specs.declared.answer.Acknowledged.{Acknowledged}
use Rattle.strm_head_calls.specs.declared.answer.Acknowledged.TheVariants.{Ack, Nak, Timeout}
use Rattle.strm_head_calls.specs.declared.answer.Received.{Received}
use Rattle.strm_head_calls.specs.declared.answer.Reply.{Reply}
use Rattle.strm_head_calls.specs.declared.answer.Reply.TheVariants.{Getmsg, Getpmsg, Read, Peek, Str, Message}

-- the replies that may have bytes of messages, a copy of which takes memory
abbrev pub has_bytes : Reply → Bool
has_bytes (Getmsg ctl dat flag more) = true
has_bytes (Getpmsg ctl dat flag more) = true
has_bytes (Read dat) = true
has_bytes (Peek (Some seen)) = true
has_bytes (Str answer) = true
has_bytes (Message m) = true
has_bytes reply = false

-- a message that is taken: an ordinary one of its band, or a high one
abbrev pub received_of : Msg → Received
received_of m = if is_high m.kind then Received.Hipri else Received.Band m.band

-- the acknowledgement of an ioctl, by the message that answers it (M_IOCACK, M_IOCNAK)
abbrev pub acknowledged_by : MsgKind → Msg → Acknowledged
acknowledged_by (MIocack id rval) m = Ack rval m.dat
acknowledged_by (MIocnak id errno) m = Nak errno
acknowledged_by kind m = Timeout

-- the outcome of an ioctl, by the answer that a head has kept
abbrev pub acknowledged : Option Msg → Acknowledged
acknowledged None = Timeout
acknowledged (Some m) = acknowledged_by m.kind m
