-- The receipts of a caller's calls on a stream.
use Rattle.std.specs.Prelude.{◌≡◌, ◌+◌, true, Some, List, [], map, take, slice_get}
use Rattle.strm_module.specs.declared.shape.Shape.{Shape}
use Rattle.strm_head_calls.specs.declared.call.Call.{Call}
use Rattle.strm_head_calls.specs.declared.event.Event.TheVariants.{Asked}
use Rattle.strm_shared_entry.specs.Entry.{asked_of}
use Rattle.strm_shared_entry.specs.Entry.{Entry}
use Rattle.strm_shared.specs.Seat.{SeatValue}
use Rattle.strm_run_callers.specs.RunName.{RunValue}
use Rattle.strm_run_input.specs.Scripts.{calls_on, script_of}

-- a caller's seat on a stream, and the entries of the calls that were made from it, in order, as their
-- receipts show them
pub record AccountValue (K : Type 0) : Type 0 where
  pub seat : SeatValue
  pub entries : List (Entry K)

-- a seat from which no call was made
abbrev pub fresh_account : {K : Type 0} → SeatValue → AccountValue K
fresh_account seat = record { seat = seat; entries = [] }

-- of each call that was made from a seat there is a receipt with its entry, and the calls are the first that
-- the caller's script has there
abbrev pub HasReceipts : {K : Type 0} → RunValue K → SeatValue → List (Entry K) → Type 0
HasReceipts run seat entries =
    seat.shown ≡ true → map asked_of entries ≡ take seat.calls (calls_on seat.number (script_of run.scripts seat.caller))

-- a call is the next one that the script of a seat's caller has for the seat's stream
abbrev pub IsNextInScript : {K : Type 0} → RunValue K → SeatValue → Call (Shape K) → Type 0
IsNextInScript run seat call =
    slice_get (calls_on seat.number (script_of run.scripts seat.caller)) seat.calls ≡ Some (call.end, Asked call.request)

-- a seat counts one call more, and nothing else but whether it is shown may change (no public clause cites
-- it)
abbrev pub CountsOne : SeatValue → SeatValue → Type 0
CountsOne old new = new ≡ record old { calls = old.calls + 1; shown = new.shown }
