-- One step of a stream.
use Rattle.std.specs.Prelude.{ℕ, ◌≡◌, ◌&&◌, ◌||◌, not, Bool, true, false, Option, Some, None, List, [], if◌then◌else◌}
use Rattle.strm_msg.specs.Kind.{is_high, is_from_line}
use Rattle.strm_msg.specs.Message.{Msg}
use Rattle.strm_msg.specs.declared.words.End.{End}
use Rattle.strm_queue.specs.Queue.{is_full, put_in}
use Rattle.strm_module.specs.Kinds.{Meaning}
use Rattle.strm_module.specs.declared.shape.Shape.{Shape}
use Rattle.strm_module.specs.Driver.{is_line, input_end}
use Rattle.strm_chain_end.specs.Change.{awaiting_none}
use Rattle.strm_chain_end.specs.End.{EndState}
use Rattle.strm_chain_ends.specs.declared.place.Place.{Place}
use Rattle.strm_chain.specs.declared.spot.Spot.TheVariants.{Up}
use Rattle.strm_chain_ends.specs.Image.{Image, end_of, with_drv, with_state, count_of}
use Rattle.strm_chain.specs.Deliver.{deliver}
use Rattle.strm_chain_ends.specs.Flow.{IsQuiet}
use Rattle.strm_chain.specs.Service.{Leads}
use Rattle.strm_chain.specs.Fault.{Breaks}
use Rattle.strm_head_calls.specs.declared.request.Request.{Request}
use Rattle.strm_head_calls.specs.declared.refusal.Refusal.{Refusal}
use Rattle.strm_head_calls.specs.declared.refusal.Refusal.TheVariants.{NoMemory}
use Rattle.strm_head_calls.specs.declared.answer.Reply.{Reply}
use Rattle.strm_head_calls.specs.declared.answer.Answer.{Answer}
use Rattle.strm_head_calls.specs.declared.answer.Answer.TheVariants.{Done, Refused, Broke}
use Rattle.strm_head_calls.specs.Effect.{Effect, effect, reply_after}
use Rattle.strm_head_calls.specs.declared.event.Event.{Event}
use Rattle.strm_head_calls.specs.declared.event.Event.TheVariants.{Asked, Arrived}
use Rattle.strm_head_calls.specs.Request.{changes_no_queue}
use Rattle.strm_head.specs.Effects.{refusal_of, effect_of, can_lack_memory, serials_of}

-- the refusal that a call has: the first that holds. Where none does it is out of memory, of a call that it
-- can refuse
abbrev pub IsRefusedBy : {P : Type 0} → Option Refusal → Request P → Refusal → Type 0
IsRefusedBy None request refusal = (refusal ≡ NoMemory) × (can_lack_memory request ≡ true)
IsRefusedBy (Some first) request refusal = refusal ≡ first

-- a refused call: nothing moves, is taken out or changed
pub record IsRefused {K : Type 0} (first : Option Refusal) (request : Request (Shape K)) (refusal : Refusal) (image : Image K) (moves : List Place) (out : List ℕ) (after : Image K) : Type 0 where
  pub is_first : IsRefusedBy first request refusal
  pub stays : moves ≡ []
  pub takes_none : out ≡ []
  pub unchanged : after ≡ image

-- memory ran out after a first change: the stream is broken, and keeps the ends and modules that the call has
-- left
pub record IsBroken {K : Type 0} (effect : Effect (Image K) K) (moves : List Place) (out : List ℕ) (after : Image K) : Type 0 where
  pub breaks : Breaks effect.image after
  pub stays : moves ≡ []
  pub takes : out ≡ serials_of effect.out

-- the end in whose driver's list messages that came in wait
abbrev pub input : {K : Type 0} → Image K → EndState K
input image = end_of image (input_end image.driver)

-- a message can come in. It comes from a line, is of a kind that comes from there, and is at an open end of a
-- stream that is not broken. If it is ordinary, its band is not full in the list of messages that came in
abbrev pub can_arrive : {K : Type 0} → Image K → End → Msg → Bool
can_arrive image e m =
    is_line image.driver && is_from_line m.kind && (end_of image e).is_open && not image.broken && (is_high m.kind || not (is_full (input image).drv_marks (input image).drv m.band))

-- the effect of an arrival before any queue moves
abbrev pub arrival : {K : Type 0} → Image K → Effect (Image K) K
arrival image = effect image Reply.Line

-- nothing moves
pub record IsStill {K : Type 0} (image : Image K) (moves : List Place) (after : Image K) : Type 0 where
  pub stays : moves ≡ []
  pub unchanged : after ≡ image

-- a head that awaits an answer awaits it no longer, and keeps none
abbrev pub answered_if : {K : Type 0} → Bool → End → Image K → Image K
answered_if true e image = with_state image e (awaiting_none (end_of image e).state)
answered_if false e image = image

-- for kinds of any meaning
module _ {K : Type 0} (means : Meaning K) where
  -- these moves are made from an image, each of a place that may move, until no place must
  pub record Settles (image : Image K) (moves : List Place) (after : Image K) : Type 0 where
    pub leads : Leads means image moves after
    pub quiet : IsQuiet means after

  -- the places that must move have moved, unless the stream is broken: then none does
  abbrev pub SettlesUnless : Bool → Image K → List Place → Image K → Type 0
  SettlesUnless true image moves after = IsStill image moves after
  SettlesUnless false image moves after = Settles image moves after

  -- a call on an end that is done: it was begun, and then the places that must move have moved. The answer
  -- that it awaits, if it does, is the one that its head has then
  pub record IsDone (e : End) (effect : Effect (Image K) K) (reply : Reply) (moves : List Place) (out : List ℕ) (after : Image K) : Type 0 where
    pub settled : Image K
    pub settles : SettlesUnless effect.image.broken effect.image moves settled
    pub replies : reply ≡ reply_after effect (end_of settled e).state.kept
    pub leaves : after ≡ answered_if effect.awaits e settled
    pub takes : out ≡ serials_of effect.out

  -- the steps of a call from its beginning to its answer
  abbrev pub Finishes : End → Effect (Image K) K → Answer → List Place → List ℕ → Image K → Type 0
  Finishes e effect (Refused refusal) moves out after = ⊥
  Finishes e effect (Done reply) moves out after = IsDone e effect reply moves out after
  Finishes e effect Broke moves out after = IsBroken effect moves out after

  -- a call on an end: refused, or begun and finished. A call that changes no queue makes no move, and breaks
  -- nothing; nor does one on a broken stream, where only an end is closed
  abbrev pub Answers : Image K → End → Request (Shape K) → Answer → List Place → List ℕ → Image K → Type 0
  Answers image e request (Refused refusal) moves out after =
      IsRefused (refusal_of means image e request) request refusal image moves out after
  Answers image e request (Done reply) moves out after =
      (refusal_of means image e request ≡ None) × (changes_no_queue request ≡ true → moves ≡ []) × Finishes e (effect_of means image e request) (Done reply) moves out after
  Answers image e request Broke moves out after =
      (refusal_of means image e request ≡ None) × (changes_no_queue request ≡ false) × (image.broken ≡ false) × Finishes e (effect_of means image e request) Broke moves out after

  -- an ordinary message that came in from a line waits in the list of messages that came in, a high one goes
  -- up at once
  abbrev pub arrived_of : Image K → End → Msg → Image K
  arrived_of image e m =
      if is_high m.kind then deliver means image (Up e (count_of image e)) m else with_drv image (input_end image.driver) (put_in (input image).drv m)

  -- a message comes in from a line, and then the places that must move have moved
  abbrev pub Lands : Image K → End → Msg → Answer → List Place → List ℕ → Image K → Type 0
  Lands image e m (Refused refusal) moves out after = ⊥
  Lands image e m (Done reply) moves out after =
      (can_arrive image e m ≡ true) × IsDone e (arrival (arrived_of image e m)) reply moves out after
  Lands image e m Broke moves out after =
      (can_arrive image e m ≡ true) × IsBroken (arrival (arrived_of image e m)) moves out after

  -- one step of a stream: an event at an end, its answer, the moves, and the serials of the modules that were
  -- taken out
  abbrev pub Step : Image K → End → Event (Shape K) → Answer → List Place → List ℕ → Image K → Type 0
  Step image e (Asked request) answer moves out after = Answers image e request answer moves out after
  Step image e (Arrived m) answer moves out after = Lands image e m answer moves out after
