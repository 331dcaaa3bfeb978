-- The effect of a message that comes up on a stream head (Programmer's Guide: STREAMS, "Stream Head";
-- streamio(7), getmsg(2)).
use Rattle.std.specs.Prelude.{ℕ, ◌==◌, ◌&&◌, nat_lt, Bool, true, false, Option, Some, None, if◌then◌else◌, is_some, is_none, unwrap_or}
use Rattle.std.specs.Option.{option_or}
use Rattle.strm_msg.specs.Marks.{WaterMarks}
use Rattle.strm_msg.specs.Message.{Msg, bare}
use Rattle.strm_msg.specs.declared.kind.MsgKind.{MsgKind}
use Rattle.strm_msg.specs.declared.kind.MsgKind.TheVariants.{MData, MProto, MPcproto, MSetopts, MIocack, MIocnak, MFlush, MHangup, MError}
use Rattle.strm_msg.specs.declared.errno.Errno.{Errno}
use Rattle.strm_msg.specs.declared.words.ReadMode.{ReadMode}
use Rattle.strm_msg.specs.declared.words.Prot.{Prot}
use Rattle.strm_queue.specs.Queue.{put_in, has_pcproto}
use Rattle.strm_chain_end.specs.Pair.{flushed_if}
use Rattle.strm_chain_end.specs.End.{EndState, in_head, in_state}
use Rattle.strm_chain_end.specs.Change.{with_mode}
use Rattle.strm_chain_end.specs.declared.record.Record.{Record}

abbrev pub is_id : Option ℕ → ℕ → Bool
is_id None id = false
is_id (Some p) id = p == id

-- the record with the answer to an ioctl (M_IOCACK, M_IOCNAK): the head keeps the first answer with the id of
-- the ioctl that it awaits, and the first with the id of the one whose answer is asked for later. It drops any
-- other
abbrev pub kept_answer : Record → ℕ → Msg → Record
kept_answer r id m =
    if is_id r.pending id && is_none r.kept then record r { kept = Some m }
    else if is_id r.asked id && is_none r.answer then record r { answer = Some m }
    else r

-- an end afterwards, and the message that its head sends down
pub record HeadStep (K : Type 0) : Type 0 where
  pub state : EndState K
  pub sends : Option Msg

abbrev pub keeps : {K : Type 0} → EndState K → HeadStep K
keeps e = record { state = e; sends = None }

-- a flush of write queues that comes up is sent down again with FLUSHR cleared
abbrev pub flush_down : Bool → Option ℕ → Option Msg
flush_down w band = if w then Some (bare (MFlush false true band)) else None

-- marks are taken where the low one is below the high one
abbrev pub marks_set : WaterMarks → Option (ℕ × ℕ) → WaterMarks
marks_set old None = old
marks_set old (Some marks) = if nat_lt marks.1 marks.0 then record { hi = marks.0; lo = marks.1 } else old

-- the given settings of how the head reads and of its marks are set, and the rest stays (M_SETOPTS:
-- SO_READOPT, SO_HIWAT, SO_LOWAT)
abbrev pub with_options : {K : Type 0} → EndState K → Option ReadMode → Option Prot → Option (ℕ × ℕ) → EndState K
with_options e mode prot marks =
    record e { head_marks = marks_set e.head_marks marks; state = with_mode e.state (unwrap_or mode e.state.mode) (unwrap_or prot e.state.prot) }

-- the error that is given for a side is kept in the place of the one before, and a side without one stays as
-- it is (M_ERROR)
abbrev pub with_errors : Record → Option Errno → Option Errno → Record
with_errors r rd wr = record r { rd_errno = option_or rd r.rd_errno; wr_errno = option_or wr r.wr_errno }

-- an error sends down a flush of the sides for which it is given
abbrev pub error_flush : Option Errno → Option Errno → Option Msg
error_flush None None = None
error_flush rd wr = Some (bare (MFlush (is_some rd) (is_some wr) None))

-- the head of an open end: data and protocol messages are put into its list, even a full one; of M_PCPROTO it
-- holds one. Options are set, and not queued. An error is kept, and the queues of its sides are flushed. Any
-- other message is dropped
abbrev pub open_head : {K : Type 0} → EndState K → MsgKind → Msg → HeadStep K
open_head e MData m = keeps (in_head e (put_in e.head m))
open_head e MProto m = keeps (in_head e (put_in e.head m))
open_head e MPcproto m = keeps (if has_pcproto e.head then e else in_head e (put_in e.head m))
open_head e (MSetopts mode prot marks) m = keeps (with_options e mode prot marks)
open_head e (MIocack id rval) m = keeps (in_state e (kept_answer e.state id m))
open_head e (MIocnak id errno) m = keeps (in_state e (kept_answer e.state id m))
open_head e (MFlush r w band) m = record { state = in_head e (flushed_if r band e.head); sends = flush_down w band }
open_head e MHangup m = keeps (in_state e (record e.state { hung = true }))
open_head e (MError rd wr) m = record { state = in_state e (with_errors e.state rd wr); sends = error_flush rd wr }
open_head e kind m = keeps e

-- the head of a closed end drops everything
abbrev pub put_at_head : {K : Type 0} → EndState K → Msg → HeadStep K
put_at_head e m = if e.is_open then open_head e m.kind m else keeps e
