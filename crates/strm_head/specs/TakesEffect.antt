-- The premises of a call when it begins, and its effect before any queue moves, or where memory ran out. No
-- public clause cites the definitions here.
use Rattle.std.specs.Prelude.{◌≡◌, ◌||◌, ℕ, [], Bool, true, false, Result, Ok, Err}
use Rattle.strm_msg.specs.declared.words.End.{End}
use Rattle.strm_module.specs.Kinds.{Meaning}
use Rattle.strm_module.specs.declared.shape.Shape.{Shape}
use Rattle.strm_chain_ends.specs.Image.{Image, end_of}
use Rattle.strm_chain.specs.Deliver.{is_there}
use Rattle.strm_chain.specs.Enabled.{ChainValue}
use Rattle.strm_chain.specs.declared.spot.Spot.TheVariants.{Down}
use Rattle.strm_chain.specs.declared.fault.ChainFault.{ChainFault}
use Rattle.strm_chain.specs.declared.fault.ChainFault.TheVariants.{NoMem, Broken}
use Rattle.strm_head_calls.specs.declared.request.Request.{Request}
use Rattle.strm_head_calls.specs.declared.request.Request.TheVariants.{Close, Take, Service, Poll}
use Rattle.strm_head_calls.specs.declared.answer.Reply.{Reply}
use Rattle.strm_chain.specs.Fault.{Fails}
use Rattle.strm_head_calls.specs.Effect.{effect, effect_ioctl}
use Rattle.strm_head_calls.specs.ReplyForm.{said}
use Rattle.strm_head_calls.specs.Request.{changes_no_queue}
use Rattle.strm_head.specs.Effects.{effect_of, has_nothing_to_do, takes_no_memory_at, sends_no_message, can_lack_memory, begun_of}
use Rattle.strm_head_ioctl.specs.Close.{HasItsEnds}
use Rattle.strm_head.specs.Inside.{IsIdle}
use Rattle.strm_head.specs.Step.{Finishes}
use Rattle.strm_head.specs.StepResult.{StepValue, AreGiven}

-- a message can be sent down from a head, which awaits no answer
pub record CanSend {K : Type 0} (image : Image K) (e : End) : Type 0 where
  pub there : is_there image (Down e 1) ≡ true
  pub whole : image.broken ≡ false
  pub idle : IsIdle (end_of image e).state

-- the conditions of a call that is not refused: of a close and a service call that the ends that are open are
-- among the driver's, of a take and a poll nothing, and of each other call that a message can be sent
abbrev pub MayBegin : {K : Type 0} → Image K → End → Request (Shape K) → Type 0
MayBegin image e Close = HasItsEnds image
MayBegin image e (Service name side call) = HasItsEnds image
MayBegin image e Take = Unit {0}
MayBegin image e Poll = Unit {0}
MayBegin image e request = CanSend image e

-- the calls that no service follows: those that change no queue, and those that have nothing to do
abbrev pub needs_no_service : {K : Type 0} → Image K → End → Request (Shape K) → Bool
needs_no_service image e request = changes_no_queue request || has_nothing_to_do image e request

-- a reply, unless memory ran out
abbrev pub taken_or : {X : Type 0} → Result Reply X → Result Reply ChainFault
taken_or (Ok reply) = Ok reply
taken_or (Err wanting) = Err NoMem

-- this reply, unless memory ran out
abbrev pub done_or : {X : Type 0} → Result X ChainFault → Reply → Result Reply ChainFault
done_or (Ok done) reply = Ok reply
done_or (Err fault) reply = Err fault

-- for kinds of any meaning
module _ {K : Type 0} (means : Meaning K) where
  -- a call has begun: its reply and its image are those of the definition
  pub record HasBegun (image : Image K) (e : End) (request : Request (Shape K)) (reply : Reply) (after : Image K) : Type 0 where
    pub reply_is : reply ≡ (effect_of means image e request).reply
    pub image_is : after ≡ begun_of means image e request

  -- memory ran out: before a change of a call that this can refuse, or after one of a call that changes
  -- queues and sends a message, on a stream that was not broken
  pub record HasFailed (image : Image K) (e : End) (request : Request (Shape K)) (fault : ChainFault) (after : Image K) : Type 0 where
    pub fails : Fails fault image (begun_of means image e request) after
    pub takes : takes_no_memory_at image e request ≡ false
    pub refused : fault ≡ NoMem → can_lack_memory request ≡ true
    pub broken : fault ≡ Broken → changes_no_queue request ≡ false
    pub sends : fault ≡ Broken → sends_no_message image e request ≡ false
    pub whole : image.broken ≡ false

  -- the outcome of a call before any queue moves
  abbrev pub TakesEffect : Image K → End → Request (Shape K) → Result Reply ChainFault → Image K → Type 0
  TakesEffect image e request (Ok reply) after = HasBegun image e request reply after
  TakesEffect image e request (Err fault) after = HasFailed image e request fault after

  -- the same, from chain to chain, where the reply is in a form
  abbrev pub Begins : {A : Type 0} → (A → Reply) → ChainValue K → End → Request (Shape K) → Result A ChainFault → ChainValue K → Type 0
  Begins says old e request result new = TakesEffect old.image e request (said says result) new.image

  -- the steps of a call that takes no module out, from its beginning to its answer, which has this reply
  abbrev pub FinishesWith : End → ChainValue K → Reply → StepValue → ChainValue K → Type 0
  FinishesWith e old reply step new = Finishes means e (effect old.image reply) step.answer step.moves [] new.image

  -- and those of an ioctl
  abbrev pub FinishesIoctl : End → ChainValue K → StepValue → ChainValue K → Type 0
  FinishesIoctl e old step new = Finishes means e (effect_ioctl old.image) step.answer step.moves [] new.image

  -- a call that is done has the looks of its own service, if one follows it
  abbrev pub HasLooks : Image K → End → Request (Shape K) → StepValue → ℕ → Type 0
  HasLooks image e request step given =
      AreGiven (needs_no_service image e request || (begun_of means image e request).broken) step.answer step.looks given
