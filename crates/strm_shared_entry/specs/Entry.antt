-- The entries of a history: the maker of a step, the event, and the modules that came back.
use Rattle.std.specs.Prelude.{ℕ, ◌==◌, Bool, true, false, Option, Some, None, List, [], ◌∷◌, flat_map}
use Rattle.arrayvec.specs.ArrayVec.{ArrayVec}
use Rattle.strm_msg.specs.Message.{Msg}
use Rattle.strm_msg.specs.declared.words.End.{End}
use Rattle.strm_module.specs.declared.shape.Shape.{Shape}
use Rattle.strm_chain_ends.specs.declared.place.Place.{Place}
use Rattle.strm_head_calls.specs.declared.answer.Answer.{Answer}
use Rattle.strm_head_calls.specs.declared.answer.Answer.TheVariants.{Done, Refused, Broke}
use Rattle.strm_head_calls.specs.declared.event.Event.{Event}
use Rattle.strm_head_calls.specs.declared.event.Event.TheVariants.{Asked, Arrived}
use Rattle.strm_shared_entry.specs.declared.entry.Who.{Who}
use Rattle.strm_shared_entry.specs.declared.entry.Who.TheVariants.{Caller, Line}

-- one step of a stream: the maker, the end, the event, the answer, the places that moved, the number of
-- places that service looked at, and the serials of the modules that were taken out, topmost first
pub record Entry (K : Type 0) : Type 0 where
  pub who : Who
  pub end : End
  pub event : Event (Shape K)
  pub answer : Answer
  pub moves : List Place
  pub looks : ℕ
  pub out : ArrayVec ℕ

-- a step after which no place was looked at, and which took no module out
abbrev pub bare_entry : {K : Type 0} → Who → End → Event (Shape K) → Answer → Entry K
bare_entry who end event answer =
    record { who = who; end = end; event = event; answer = answer; moves = []; looks = 0; out = record { items = [] } }

-- an entry with the outcome of its step
abbrev pub with_outcome : {K : Type 0} → Entry K → Answer → List Place → ℕ → ArrayVec ℕ → Entry K
with_outcome entry answer moves looks out = record entry { answer = answer; moves = moves; looks = looks; out = out }

-- calls are made by callers, and messages come in from the line
abbrev pub is_by : {P : Type 0} → Who → Event P → Bool
is_by (Caller caller) (Asked request) = true
is_by (Caller caller) (Arrived m) = false
is_by Line (Asked request) = false
is_by Line (Arrived m) = true

abbrev pub is_caller : ℕ → Who → Bool
is_caller caller (Caller other) = other == caller
is_caller caller Line = false

-- the event, and its end
abbrev pub asked_of : {K : Type 0} → Entry K → End × Event (Shape K)
asked_of entry = (entry.end, entry.event)

-- the message that came in, if one did
abbrev pub came_in : {P : Type 0} → Event P → List Msg
came_in (Asked request) = []
came_in (Arrived m) = m ∷ []

-- a message came in
abbrev pub has_come_in : {P : Type 0} → Event P → Bool
has_come_in (Asked request) = false
has_come_in (Arrived m) = true

abbrev pub serial_of : {K : Type 0} → Option (Shape K) → List ℕ
serial_of None = []
serial_of (Some shape) = shape.serial ∷ []

-- the serials of the modules that come back, but for that of a refused push, which was never put in (no
-- public clause cites it)
abbrev pub out_in : {K : Type 0} → Answer → List (Option (Shape K)) → List ℕ
out_in (Refused refusal) back = []
out_in (Done reply) back = flat_map serial_of back
out_in Broke back = flat_map serial_of back
