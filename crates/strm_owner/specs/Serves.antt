-- What serves the calls of an owner: a stream, one that keeps its history, or a seat of a shared one.
use Rattle.std.specs.Prelude.{◌≡◌, ℕ, List, ◌++◌, All, Option, Some, None}
use Rattle.arrayvec.specs.ArrayVec.{ArrayVec}
use Rattle.strm_msg.specs.declared.words.End.{End}
use Rattle.strm_msg.specs.declared.words.Side.{Side}
use Rattle.strm_module.specs.Kinds.{Meaning}
use Rattle.strm_module.specs.declared.shape.Shape.{Shape}
use Rattle.strm_chain_ends.specs.Image.{Image}
use Rattle.strm_chain_ends.specs.declared.place.Place.{Place}
use Rattle.strm_head_calls.specs.declared.answer.Answer.{Answer}
use Rattle.strm_head_calls.specs.declared.call.Call.{Call}
use Rattle.strm_head_calls.specs.declared.event.Event.TheVariants.{Asked}
use Rattle.strm_head_calls.specs.declared.request.Request.{Request}
use Rattle.strm_head_calls.specs.declared.request.Request.TheVariants.{Service}
use Rattle.strm_head_calls.specs.declared.service.ServiceCall.{ServiceCall}
use Rattle.strm_head.specs.Effects.{refusal_of}
use Rattle.strm_head.specs.StepResult.{IsAnswered}
use Rattle.strm_shared_entry.specs.declared.call.Called.TheVariants.{Done}
use Rattle.strm_shared_entry.specs.declared.entry.Who.TheVariants.{Caller}
use Rattle.strm_shared_entry.specs.Entry.{Entry, asked_of}
use Rattle.strm_shared_entry.specs.Receipt.{ReceiptValue}
use Rattle.strm_shared_log.specs.Log.{LogValue, IsSameLog, Enters, Equals}
use Rattle.strm_shared.specs.Seat.{SeatValue}
use Rattle.strm_shared.specs.Ending.{Counted, Shows}
use Rattle.strm_owner.specs.declared.owner.Told.{Told}
use Rattle.strm_owner.specs.Hearing.{IsHeard}

-- the module that an owner serves: its end and its name
pub record ServedModuleValue : Type 0 where
  pub at : End
  pub name : ArrayVec ℕ

-- the request for a call on the module
abbrev pub request_of : {P : Type 0} → ServedModuleValue → Side → ServiceCall → Request P
request_of served side call = Service served.name side call

-- the call of a caller for it
abbrev pub call_of : {P : Type 0} → ServedModuleValue → Side → ServiceCall → Call P
call_of served side call = record { end = served.at; request = request_of served side call }

-- an entry is that of a service call of this caller on this module
pub record IsServiceBy {K : Type 0} (served : ServedModuleValue) (caller : ℕ) (entry : Entry K) : Type 0 where
  pub side : Side
  pub call : ServiceCall
  pub by : entry.who ≡ Caller caller
  pub asked : asked_of entry ≡ (served.at, Asked (request_of served side call))

-- a history goes on with service calls of this caller on this module, and with nothing else
pub record OnlyServes {K : Type 0} (served : ServedModuleValue) (caller : ℕ) (old new : List (Entry K)) : Type 0 where
  pub entries : List (Entry K)
  pub history : new ≡ old ++ entries
  pub only : All (λ entry. IsServiceBy served caller entry) entries

-- a seat makes a call: the seat counts it, and its receipt shows it
pub record SeatCalls {K : Type 0} (seat : SeatValue) (call : Call (Shape K)) (answer : Answer) (after : SeatValue) : Type 0 where
  pub back : List (Option (Shape K))
  pub receipt : Option (ReceiptValue K)
  pub counts : Counted call seat (Done answer (record { items = back }) receipt) after
  pub shown : Shows Equals seat call (Done answer (record { items = back }) receipt)

-- from a seat: other callers may call in between, so what would refuse the call is not known beforehand
abbrev pub Calls : (K : Type 0) → ServedModuleValue → Side → ServiceCall → SeatValue → Told → SeatValue → Type 0
Calls K served side call seat told after = IsHeard None (after ≡ seat) (λ answer. SeatCalls {K = K} seat (call_of served side call) answer after) call told

-- for kinds of any meaning
module _ {K : Type 0} (means : Meaning K) where
  -- a stream makes a call by one step
  pub record IsMade (image : Image K) (e : End) (request : Request (Shape K)) (answer : Answer) (after : Image K) : Type 0 where
    pub moves : List Place
    pub step : IsAnswered means image e request answer moves after

  -- on a stream
  abbrev pub Serves : ServedModuleValue → Side → ServiceCall → Image K → Told → Image K → Type 0
  Serves served side call image told after =
      IsHeard (refusal_of means image served.at (request_of served side call)) (after ≡ image) (λ answer. IsMade image served.at (request_of served side call) answer after) call told

  -- on a stream that keeps its history
  abbrev pub Logs : ServedModuleValue → ℕ → Side → ServiceCall → LogValue K → Told → LogValue K → Type 0
  Logs served caller side call old told new =
      IsHeard (refusal_of means old.image served.at (request_of served side call)) (IsSameLog old new) (λ answer. Enters means old (Caller caller) served.at (Asked (request_of served side call)) answer new) call told
