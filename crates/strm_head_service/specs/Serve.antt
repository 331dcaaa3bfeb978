-- The calls of service procedures that are the program's (srv(9E); getq(9F), putbq(9F), putnext(9F),
-- bcanputnext(9F), qsize(9F)), on a module and on the output of a wire.
use Rattle.std.specs.Prelude.{ℕ, ◌&&◌, not, Bool, true, false, Option, Some, None, List, [], ◌∷◌, drop, length}
use Rattle.strm_msg.specs.Kind.{is_high}
use Rattle.strm_msg.specs.Message.{Msg}
use Rattle.strm_msg.specs.declared.words.End.{End}
use Rattle.strm_msg.specs.declared.kind.MsgKind.{MsgKind}
use Rattle.strm_msg.specs.declared.kind.MsgKind.TheVariants.{MData, MProto, MPcproto}
use Rattle.strm_msg.specs.declared.words.Side.{Side}
use Rattle.strm_msg.specs.declared.words.Side.TheVariants.{Rd, Wr}
use Rattle.strm_queue.specs.Queue.{put_back_in}
use Rattle.strm_module.specs.Kinds.{Meaning}
use Rattle.strm_chain_end.specs.End.{EndState, list_at}
use Rattle.strm_chain_end.specs.Canput.{full_in}
use Rattle.strm_chain_end.specs.First.{first_message}
use Rattle.strm_chain_end.specs.Change.{is_programs, with_queue}
use Rattle.strm_chain_ends.specs.Image.{Image, end_of, with_end, with_drv}
use Rattle.strm_chain_ends.specs.Held.{module_place}
use Rattle.strm_chain_ends.specs.Path.{ahead}
use Rattle.strm_chain.specs.Deliver.{deliver}
use Rattle.strm_head_calls.specs.declared.refusal.Refusal.{Refusal}
use Rattle.strm_head_calls.specs.declared.refusal.Refusal.TheVariants.{Closed, Broken, Invalid, WouldWait}
use Rattle.strm_head_calls.specs.declared.request.Wanted.{Wanted}
use Rattle.strm_head_calls.specs.declared.service.ServiceCall.{ServiceCall}
use Rattle.strm_head_calls.specs.declared.service.ServiceCall.TheVariants.{Getq, Putbq, Putnext, Bcanputnext, Qsize}
use Rattle.strm_head_calls.specs.declared.service.Serviced.TheVariants as Serviced
use Rattle.strm_head_calls.specs.declared.answer.Reply.{Reply}
use Rattle.strm_head_calls.specs.declared.answer.Reply.TheVariants.{Hangup, Message, Service}
use Rattle.strm_head_calls.specs.Effect.{Effect, effect}
use Rattle.strm_head_calls.specs.Service.{needs_queue}
use Rattle.strm_head_msg.specs.Take.{matches_getmsg}
use Rattle.strm_head_ioctl.specs.Ask.{is_empty}
use Rattle.strm_head_ioctl.specs.Outside.{take_effect}
use Rattle.strm_head_service.specs.declared.served.Served.{Served}
use Rattle.strm_head_service.specs.declared.served.Served.TheVariants.{Module, Output}
use Rattle.strm_head_service.specs.Served.{served_at, is_output, spot_past}

-- whether a getq takes the message that is first
abbrev pub takes_first : Wanted → Option Msg → Bool
takes_first flag None = false
takes_first flag (Some m) = matches_getmsg flag m

-- whether the queue that is next past a module on a side has no room for a message: a high one always has
abbrev pub has_no_room : {K : Type 0} → Image K → End → ℕ → Side → Msg → Bool
has_no_room image e i side m = not (is_high m.kind) && full_in (ahead image (module_place side e i)) m.band

-- what a wire keeps for its output: data, and protocol messages of either priority
abbrev pub goes_out : MsgKind → Bool
goes_out MData = true
goes_out MProto = true
goes_out MPcproto = true
goes_out kind = false

-- the output is on the write side. From it messages are taken, and put back, and their number is asked for
abbrev pub suits_output : Side → ServiceCall → Bool
suits_output Wr (Getq flag) = true
suits_output Wr (Putbq m) = goes_out m.kind
suits_output Wr Qsize = true
suits_output side call = false

-- the name means nothing that the program serves, or the call needs a queue that is not there
abbrev pub lacks_queue : {K : Type 0} → Image K → End → Option Served → Side → ServiceCall → Bool
lacks_queue image e None side call = true
lacks_queue image e (Some (Module i)) side call = needs_queue call && not (is_programs (end_of image e) i side)
lacks_queue image e (Some Output) side call = not (suits_output side call)

-- a closed wire whose output holds nothing: no more comes
abbrev pub is_drained : {K : Type 0} → EndState K → Bool
is_drained e = is_empty e.drv && not e.is_open

-- the call would have to wait: for a message, or for room
abbrev pub module_waits : {K : Type 0} → Image K → End → ℕ → Side → ServiceCall → Bool
module_waits image e i side (Getq flag) = not (takes_first flag (first_message (list_at (end_of image e) i side)))
module_waits image e i side (Putnext m) = has_no_room image e i side m
module_waits image e i side call = false

abbrev pub output_waits : {K : Type 0} → EndState K → ServiceCall → Bool
output_waits e (Getq flag) = not (is_drained e) && not (takes_first flag (first_message e.drv))
output_waits e call = false

abbrev pub must_wait : {K : Type 0} → Image K → End → Option Served → Side → ServiceCall → Bool
must_wait image e None side call = false
must_wait image e (Some (Module i)) side call = module_waits image e i side call
must_wait image e (Some Output) side call = output_waits (end_of image e) call

-- the refusals of a service call, each with its condition, in the order in which they are looked for. The call
-- is made below the head, so no error and no hangup that came up there refuses it. A closed end refuses a call
-- on a module, but none on the output of a wire
abbrev pub service_refusals : {K : Type 0} → Image K → End → List ℕ → Side → ServiceCall → List (Bool × Refusal)
service_refusals image e name side call =
    let found = served_at image e name in
    (not (is_output found) && not (end_of image e).is_open, Closed) ∷ (image.broken, Broken) ∷ (lacks_queue image e found side call, Invalid) ∷ (must_wait image e found side call, WouldWait) ∷ []

-- the reply with the message that is first; where none is, the call was refused
abbrev pub got : Option Msg → Reply
got None = Hangup
got (Some m) = Message m

-- the reply of a service call on module i
abbrev pub module_reply : {K : Type 0} → Image K → End → ℕ → Side → ServiceCall → Reply
module_reply image e i side (Getq flag) = got (first_message (list_at (end_of image e) i side))
module_reply image e i side (Putbq m) = Service Serviced.Putbq
module_reply image e i side (Putnext m) = Service Serviced.Putnext
module_reply image e i side (Bcanputnext band) = Service (Serviced.Bcanputnext (not (full_in (ahead image (module_place side e i)) band)))
module_reply image e i side Qsize = Service (Serviced.Qsize (length (list_at (end_of image e) i side)))

-- and on the output of a wire: a getq is a take. Other calls were refused
abbrev pub output_reply : {K : Type 0} → Image K → End → ServiceCall → Reply
output_reply image e (Getq flag) = (take_effect image e).reply
output_reply image e (Putbq m) = Service Serviced.Putbq
output_reply image e Qsize = Service (Serviced.Qsize (length (end_of image e).drv))
output_reply image e call = Hangup

-- the same of what the name means; where it means nothing, the call was refused
abbrev pub reply_by : {K : Type 0} → Image K → End → Option Served → Side → ServiceCall → Reply
reply_by image e None side call = Hangup
reply_by image e (Some (Module i)) side call = module_reply image e i side call
reply_by image e (Some Output) side call = output_reply image e call

-- the call sends a message on
abbrev pub sends_on : ServiceCall → Bool
sends_on (Putnext m) = true
sends_on call = false

-- the queue of a side of module i has these messages
abbrev pub with_messages : {K : Type 0} → Image K → End → ℕ → Side → List Msg → Image K
with_messages image e i side q = with_end image e (with_queue (end_of image e) i side q)

-- the image that a service call on the output of a wire leaves
abbrev pub output_served : {K : Type 0} → Image K → End → ServiceCall → Image K
output_served image e (Getq flag) = (take_effect image e).image
output_served image e (Putbq m) = with_drv image e (put_back_in (end_of image e).drv m)
output_served image e call = image

-- a getq of an output that holds nothing; where it is not refused, the wire is closed
abbrev pub takes_none : {K : Type 0} → EndState K → ServiceCall → Bool
takes_none e (Getq flag) = is_empty e.drv
takes_none e call = false

abbrev pub finds_nothing : {K : Type 0} → Image K → End → List ℕ → ServiceCall → Bool
finds_nothing image e name call = takes_none (end_of image e) call && is_output (served_at image e name)

-- for kinds of any meaning
module _ {K : Type 0} (means : Meaning K) where
  -- the image that a service call on module i leaves
  abbrev pub module_served : Image K → End → ℕ → Side → ServiceCall → Image K
  module_served image e i side (Getq flag) = with_messages image e i side (drop 1 (list_at (end_of image e) i side))
  module_served image e i side (Putbq m) = with_messages image e i side (put_back_in (list_at (end_of image e) i side) m)
  module_served image e i side (Putnext m) = deliver means image (spot_past e i side) m
  module_served image e i side (Bcanputnext band) = image
  module_served image e i side Qsize = image

  abbrev pub served_by : Image K → End → Option Served → Side → ServiceCall → Image K
  served_by image e None side call = image
  served_by image e (Some (Module i)) side call = module_served image e i side call
  served_by image e (Some Output) side call = output_served image e call

  abbrev pub service_effect : Image K → End → List ℕ → Side → ServiceCall → Effect (Image K) K
  service_effect image e name side call =
      let found = served_at image e name in effect (served_by image e found side call) (reply_by image e found side call)
