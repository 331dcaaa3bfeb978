-- A module with its two queues, and the changes of them (queue(9S); put(9E), srv(9E), flushq(9F)).
use Rattle.std.specs.Prelude.{ℕ, ◌&&◌, not, Bool, Option, Some, None, List, [], ◌∷◌, if◌then◌else◌}
use Rattle.strm_msg.specs.Message.{Msg}
use Rattle.strm_msg.specs.declared.kind.MsgKind.{MsgKind}
use Rattle.strm_msg.specs.declared.kind.MsgKind.TheVariants.{MFlush}
use Rattle.strm_msg.specs.declared.words.Side.{Side}
use Rattle.strm_msg.specs.declared.words.Side.TheVariants.{Rd, Wr}
use Rattle.strm_msg.specs.Marks.{WaterMarks}
use Rattle.strm_queue.specs.Queue.{Queue, put_in, flush_of, flush_band_of}
use Rattle.strm_module.specs.Kinds.{OutList, Meaning}
use Rattle.strm_module.specs.Module.{put_of, serve_of, own_of, expired}
use Rattle.strm_module.specs.declared.turn.Turn.{Turn}
use Rattle.strm_module.specs.declared.turn.Turn.TheVariants.{Serves, Shut, Sends}
use Rattle.strm_module.specs.declared.shape.Shape.{Shape}
use Rattle.strm_module.specs.Shape.{queues_on}
use Rattle.strm_module.specs.declared.outs.Put.{Put}
use Rattle.strm_module.specs.declared.outs.Put.TheVariants.{Queue as Queued, Sent}

-- a module as its shape, with the messages of its two queues; a side without marks has none
pub record QueuePair (K : Type 0) : Type 0 where
  pub shape : Shape K
  pub rd : List Msg
  pub wr : List Msg

-- a module with empty queues
abbrev pub fresh_pair : {K : Type 0} → Shape K → QueuePair K
fresh_pair s = record { shape = s; rd = []; wr = [] }

abbrev pub list_on : {K : Type 0} → QueuePair K → Side → List Msg
list_on s Rd = s.rd
list_on s Wr = s.wr

-- the stream serves the queue of a side: it is there, and its service procedure is not the program's
-- (noenable(9F))
abbrev pub is_served : {K : Type 0} → Shape K → Side → Bool
is_served s side = queues_on s side && not s.noenable

-- those that the stream serves: none where the service procedures are the program's (noenable(9F))
abbrev pub served_on : {K : Type 0} → QueuePair K → Side → List Msg
served_on s side = if s.shape.noenable then [] else list_on s side

abbrev pub with_list : {K : Type 0} → QueuePair K → Side → List Msg → QueuePair K
with_list s Rd q = record s { rd = q }
with_list s Wr q = record s { wr = q }

-- the messages and the marks of a queue that may be missing
abbrev pub messages_in : Option Queue → List Msg
messages_in None = []
messages_in (Some q) = q.messages

abbrev pub marks_in : Option Queue → Option WaterMarks
marks_in None = None
marks_in (Some q) = Some q.marks

-- a flush of all bands, or of the one band that it names (M_FLUSH)
abbrev pub flushed : Option ℕ → List Msg → List Msg
flushed None q = flush_of q
flushed (Some b) q = flush_band_of b q

abbrev pub flushed_if : Bool → Option ℕ → List Msg → List Msg
flushed_if wanted band q = if wanted then flushed band q else q

-- a flush empties the queues that its flags name: FLUSHR the read queue, FLUSHW the write queue
abbrev pub flushed_pair : {K : Type 0} → QueuePair K → MsgKind → QueuePair K
flushed_pair s (MFlush r w band) = record s { rd = flushed_if r band s.rd; wr = flushed_if w band s.wr }
flushed_pair s kind = s

-- a module with its queues afterwards, and the messages that it sends
pub record PairStep (K : Type 0) : Type 0 where
  pub pair : QueuePair K
  pub outs : OutList

-- a message is put into the queue of a side (putq(9F))
abbrev pub with_put : {K : Type 0} → QueuePair K → Side → Msg → QueuePair K
with_put s side m = with_list s side (put_in (list_on s side) m)

-- the module's answer: the message is put into its queue of that side, or this is sent
abbrev pub after_put : {K : Type 0} → QueuePair K → Side → Put → PairStep K
after_put s side (Queued m) = record { pair = with_put s side m; outs = [] }
after_put s side (Sent outs) = record { pair = s; outs = outs.items }

-- for kinds of any meaning
module _ {K : Type 0} (means : Meaning K) where
  -- a message comes to a module: a flush passes its queues first, and then its put procedure has it
  abbrev pub pair_gets : QueuePair K → Side → Msg → PairStep K
  pair_gets s side m =
      let put = put_of means s.shape side m in
      after_put (record (flushed_pair s m.kind) { shape = put.shape }) side put.answer

  -- the module serves the first message of its queue of a side (getq(9F))
  abbrev pub pair_front : QueuePair K → Side → List Msg → PairStep K
  pair_front s side [] = record { pair = s; outs = [] }
  pair_front s side (m ∷ q) =
      let served = serve_of means s.shape side m in
      record { pair = record (with_list s side q) { shape = served.shape }; outs = served.outs }

  -- the step of a service, by its turn: it serves its first message, does nothing, or sends something of the
  -- module's own
  abbrev pub pair_turns : QueuePair K → Side → Turn → PairStep K
  pair_turns s side Serves = pair_front s side (list_on s side)
  pair_turns s side Shut = record { pair = s; outs = [] }
  pair_turns s side (Sends band) =
      let sent = own_of means s.shape side in
      record { pair = record s { shape = sent.shape }; outs = sent.outs }

  -- the turn of the service of a side: none for good where it is the program's (noenable(9F)), and else as
  -- the kind says
  abbrev pub service_turn : Shape K → Side → Turn
  service_turn s side = if s.noenable then Shut else means.turn s.kind side

  abbrev pub pair_serves : QueuePair K → Side → PairStep K
  pair_serves s side = pair_turns s side (service_turn s.shape side)

  -- so many ticks pass for the module: its queues stay as they are (timeout(9F))
  abbrev pub expired_pair : QueuePair K → ℕ → QueuePair K
  expired_pair s ticks = record s { shape = expired means s.shape ticks }
