-- Room for an entry, and the parts of a receipt.
use Rattle.std.specs.Prelude.{◌≡◌, ℕ, Bool, false, List, [], unwrap_or}
use Rattle.strm_msg.specs.Message.{Msg}
use Rattle.strm_msg.specs.declared.words.End.{End}
use Rattle.strm_msg.specs.declared.words.End.TheVariants.{A}
use Rattle.strm_module.specs.declared.shape.Shape.{Shape}
use Rattle.strm_chain_ends.specs.declared.place.Place.{Place}
use Rattle.strm_head_calls.specs.declared.answer.Answer.{Answer}
use Rattle.strm_head_calls.specs.Calls.{changes_modules}
use Rattle.strm_head_calls.specs.declared.event.Event.{Event}
use Rattle.strm_head_calls.specs.declared.event.Event.TheVariants.{Asked, Arrived}
use Rattle.strm_shared_entry.specs.declared.entry.Who.TheVariants.{Caller, Line}
use Rattle.strm_head_calls.specs.declared.call.Call.{Call}
use Rattle.strm_shared_once.specs.Held.{HeldValue}
use Rattle.strm_shared_entry.specs.Entry.{Entry, has_come_in}

-- a call that is to be made: the caller, the number of the call among the caller's, counted from 1, the end,
-- and the request
pub record EntryRoomValue (K : Type 0) : Type 0 where
  pub caller : ℕ
  pub number : ℕ
  pub end : End
  pub event : Event (Shape K)

-- the receipt of a call that was made: the caller, the number of the call among the caller's, counted from 1,
-- and its entry
pub record ReceiptValue (K : Type 0) : Type 0 where
  pub caller : ℕ
  pub number : ℕ
  pub entry : Entry K

-- the room for this caller's call of this number
abbrev pub call_room : {K : Type 0} → ℕ → ℕ → Call (Shape K) → EntryRoomValue K
call_room caller number call = record { caller = caller; number = number; end = call.end; event = Asked call.request }

-- the receipt of a call of this number, whose caller is next to its entry (no public clause cites it)
abbrev pub receipt_of : {K : Type 0} → HeldValue (Entry K) → ℕ → ReceiptValue K
receipt_of held number = record { caller = unwrap_or held.owner 0; number = number; entry = held.value }

-- the call may take a module out (no public clause cites it)
abbrev pub may_take_out : {K : Type 0} → Event (Shape K) → Bool
may_take_out (Asked request) = changes_modules request
may_take_out (Arrived m) = false

-- the entry of a call, with its outcome (no public clause cites it)
abbrev pub filled : {K : Type 0} → EntryRoomValue K → Answer → List Place → ℕ → List ℕ → Entry K
filled room answer moves looks out =
    record { who = Caller room.caller; end = room.end; event = room.event; answer = answer; moves = moves; looks = looks; out = record { items = out } }

-- the entry in a room is of a call of this caller, and there is room for modules if the call may take some
-- out (no public clause cites it)
abbrev pub IsCallEntry : {K : Type 0} → ℕ → Entry K → Bool → Type 0
IsCallEntry caller entry has_room =
    (entry.who ≡ Caller caller) × (has_come_in entry.event ≡ false) × (has_room ≡ may_take_out entry.event)

-- the receipt of such an entry (no public clause cites it)
abbrev pub filled_receipt : {K : Type 0} → EntryRoomValue K → Answer → List Place → ℕ → List ℕ → ReceiptValue K
filled_receipt room answer moves looks out =
    record { caller = room.caller; number = room.number; entry = filled room answer moves looks out }

-- the entry of a message that came in (no public clause cites it)
abbrev pub arrival_entry : {K : Type 0} → Msg → Answer → List Place → ℕ → Entry K
arrival_entry m answer moves looks =
    record { who = Line; end = A; event = Arrived m; answer = answer; moves = moves; looks = looks; out = record { items = [] } }
