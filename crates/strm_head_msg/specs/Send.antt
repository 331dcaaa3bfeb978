-- Calls that send a message down: putmsg, putpmsg and write (putmsg(2), write(2)).
use Rattle.std.specs.Prelude.{◌≡◌, ℕ, ◌==◌, ◌||◌, not, nat_lt, Bool, true, false, Option, Some, None, List, [], ◌∷◌, length, option_map, is_none, if◌then◌else◌, Result, OnOk, IfErr}
use Rattle.strm_msg.specs.Kind.{is_high}
use Rattle.strm_msg.specs.Message.{Msg, Part, part_len, data_msg, proto_msg, pcproto_msg}
use Rattle.strm_msg.specs.declared.words.End.{End}
use Rattle.strm_module.specs.Kinds.{Meaning}
use Rattle.strm_chain_end.specs.Canput.{below, full_in}
use Rattle.strm_chain.specs.declared.spot.Spot.TheVariants.{Down}
use Rattle.strm_chain_ends.specs.Image.{Image, end_of}
use Rattle.strm_chain.specs.Deliver.{deliver}
use Rattle.strm_chain.specs.Enabled.{ChainValue}
use Rattle.strm_chain.specs.Fault.{Fails}
use Rattle.strm_chain.specs.declared.fault.ChainFault.{ChainFault}
use Rattle.strm_head_calls.specs.declared.parts.Parts.{Parts}
use Rattle.strm_head_calls.specs.declared.request.TheConstants.{MAX_CONTROL, MAX_DATA}
use Rattle.strm_head_calls.specs.declared.request.Priority.{Priority}
use Rattle.strm_head_calls.specs.declared.request.Priority.TheVariants.{Norm, Hipri}
use Rattle.strm_head_calls.specs.declared.request.PutFlag.{PutFlag}
use Rattle.strm_head_calls.specs.declared.refusal.Refusal.{Refusal}
use Rattle.strm_head_calls.specs.declared.refusal.Refusal.TheVariants.{Invalid, TooLong, HungUp, WouldWait}
use Rattle.strm_head_calls.specs.declared.answer.Reply.TheVariants as Reply
use Rattle.strm_head_calls.specs.Effect.{Effect, effect}

-- an ordinary message of a band: with control a protocol message, else data; none without a part
abbrev pub ordinary_message : ℕ → Part → Part → Option Msg
ordinary_message band None dat = option_map (data_msg band) dat
ordinary_message band (Some ctl) dat = Some (proto_msg band ctl dat)

-- a high-priority message, which has control
abbrev pub high_message : Part → Part → Option Msg
high_message None dat = None
high_message (Some ctl) dat = Some (pcproto_msg ctl dat)

-- the message that a putmsg sends
abbrev pub putmsg_message : Part → Part → Priority → Option Msg
putmsg_message ctl dat Norm = ordinary_message 0 ctl dat
putmsg_message ctl dat Hipri = high_message ctl dat

-- the message that a putpmsg sends
abbrev pub putpmsg_message : Part → Part → ℕ → PutFlag → Option Msg
putpmsg_message ctl dat band PutFlag.Zero = None
putpmsg_message ctl dat band PutFlag.Band = ordinary_message band ctl dat
putpmsg_message ctl dat band PutFlag.Hipri = high_message ctl dat

-- the same, by the parts together
abbrev pub putmsg_sent : Parts → Priority → Option Msg
putmsg_sent parts flag = putmsg_message parts.ctl parts.dat flag

abbrev pub putpmsg_sent : Parts → ℕ → PutFlag → Option Msg
putpmsg_sent parts band flag = putpmsg_message parts.ctl parts.dat band flag

-- whether a part is longer than a call may send, in bytes
abbrev pub is_too_long : Part → Part → Bool
is_too_long ctl dat = nat_lt MAX_CONTROL (part_len ctl) || nat_lt MAX_DATA (part_len dat)

-- the band of the message that a call sends, where that is an ordinary one
abbrev pub ordinary_band : Option Msg → Option ℕ
ordinary_band None = None
ordinary_band (Some m) = if is_high m.kind then None else Some m.band

-- whether an ordinary message of a band would have to wait to be sent: the first write queue of the end is
-- full in the band
abbrev pub would_wait : {K : Type 0} → Image K → End → Option ℕ → Bool
would_wait image e None = false
would_wait image e (Some band) = full_in (below image.driver (end_of image e) 0) band

-- the refusals of each call that sends, where no part is too long
abbrev pub waiting_refusals : {K : Type 0} → Image K → End → Option ℕ → List (Bool × Refusal)
waiting_refusals image e band = ((end_of image e).state.hung, HungUp) ∷ (would_wait image e band, WouldWait) ∷ []

-- the refusals of each call that sends: a part that is too long, an end that is hung up, a queue that is full
abbrev pub sending_refusals : {K : Type 0} → Image K → End → Part → Part → Option ℕ → List (Bool × Refusal)
sending_refusals image e ctl dat band = (is_too_long ctl dat, TooLong) ∷ waiting_refusals image e band

-- whether a putmsg is invalid: it is high without control
abbrev pub is_invalid_putmsg : Part → Priority → Bool
is_invalid_putmsg ctl Norm = false
is_invalid_putmsg ctl Hipri = is_none ctl

abbrev pub putmsg_refusals : {K : Type 0} → Image K → End → Part → Part → Priority → List (Bool × Refusal)
putmsg_refusals image e ctl dat flag =
    (is_invalid_putmsg ctl flag, Invalid) ∷ sending_refusals image e ctl dat (ordinary_band (putmsg_message ctl dat flag))

-- whether a putpmsg is invalid: it has no flag, or it is high without control or of a band other than 0
abbrev pub is_invalid_putpmsg : Part → ℕ → PutFlag → Bool
is_invalid_putpmsg ctl band PutFlag.Zero = true
is_invalid_putpmsg ctl band PutFlag.Band = false
is_invalid_putpmsg ctl band PutFlag.Hipri = is_none ctl || not (band == 0)

abbrev pub putpmsg_refusals : {K : Type 0} → Image K → End → Part → Part → ℕ → PutFlag → List (Bool × Refusal)
putpmsg_refusals image e ctl dat band flag =
    (is_invalid_putpmsg ctl band flag, Invalid) ∷ sending_refusals image e ctl dat (ordinary_band (putpmsg_message ctl dat band flag))

abbrev pub write_refusals : {K : Type 0} → Image K → End → List ℕ → List (Bool × Refusal)
write_refusals image e dat = sending_refusals image e None (Some dat) (Some 0)

-- for kinds of any meaning
module _ {K : Type 0} (means : Meaning K) where
  -- a message goes down from the head
  abbrev pub sent_of : Image K → End → Option Msg → Image K
  sent_of image e None = image
  sent_of image e (Some m) = deliver means image (Down e 1) m

  -- a message was sent, unless memory ran out
  abbrev pub IsSent : {X : Type 0} → ChainValue K → End → Option Msg → Result X ChainFault → ChainValue K → Type 0
  IsSent old e m result new = OnOk result (new.image ≡ sent_of old.image e m)

  -- memory ran out, before the message was sent or on its way
  abbrev pub NotSent : {X : Type 0} → ChainValue K → End → Option Msg → Result X ChainFault → ChainValue K → Type 0
  NotSent old e m result new = IfErr result (λ fault. Fails fault old.image (sent_of old.image e m) new.image)

  abbrev pub putmsg_effect : Image K → End → Part → Part → Priority → Effect (Image K) K
  putmsg_effect image e ctl dat flag = effect (sent_of image e (putmsg_message ctl dat flag)) Reply.Putmsg

  abbrev pub putpmsg_effect : Image K → End → Part → Part → ℕ → PutFlag → Effect (Image K) K
  putpmsg_effect image e ctl dat band flag = effect (sent_of image e (putpmsg_message ctl dat band flag)) Reply.Putpmsg

  -- a write is one message of band 0, an empty one too
  abbrev pub write_effect : Image K → End → List ℕ → Effect (Image K) K
  write_effect image e dat = effect (sent_of image e (Some (data_msg 0 dat))) (Reply.Write (length dat))
