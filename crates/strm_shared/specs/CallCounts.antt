-- Histories whose calls are in turn, and the calls that a run allows.
use Rattle.std.specs.Prelude.{◌≡◌, ℕ, ◌+◌, ◌<◌, ◌&&◌, ◌==◌, nat_lt, Bool, true, false, Option, Some, None, List, All, get_or, length, map, set, take, if◌then◌else◌, ⊤, replicate}
use Rattle.strm_msg.specs.declared.words.End.{End}
use Rattle.strm_module.specs.declared.shape.Shape.{Shape}
use Rattle.strm_module.specs.Driver.{is_line}
use Rattle.strm_head_calls.specs.declared.call.Call.{Call}
use Rattle.strm_head_calls.specs.declared.event.Event.{Event}
use Rattle.strm_head_calls.specs.declared.event.Event.TheVariants.{Asked}
use Rattle.strm_shared_entry.specs.Entry.{Entry}
use Rattle.strm_shared_entry.specs.declared.call.Called.{Called}
use Rattle.strm_shared_entry.specs.declared.call.Called.TheVariants.{Done, NoRoom}
use Rattle.strm_shared_entry.specs.Entry.{asked_of}
use Rattle.strm_shared_entry.specs.Own.{arrivals, own, calls_of}
use Rattle.strm_shared_log.specs.Log.{LogValue}
use Rattle.strm_shared_ring.specs.Inlet.{InletValue}
use Rattle.strm_shared_ring.specs.StreamRunName.{IsNextOf}
use Rattle.strm_shared.specs.Seat.{SeatValue}
use Rattle.strm_shared_entry.specs.Own.{AreFromSeats}

-- the entries have the first of the calls that may be made, in order
abbrev pub ArePrefixOf : {K : Type 0} → Option (List (End × Event (Shape K))) → List (Entry K) → Type 0
ArePrefixOf None entries = ⊤
ArePrefixOf (Some calls) entries = map asked_of entries ≡ take (length entries) calls

-- each caller's entries have the first of the calls that it may make
abbrev pub FollowsCalls : {K : Type 0} → (ℕ → Option (List (End × Event (Shape K)))) → List (Entry K) → Type 0
FollowsCalls calls history = (caller : ℕ) → ArePrefixOf (calls caller) (own caller history)

-- a call is the next one of those that may be made from a seat
abbrev pub IsNextCall : {K : Type 0} → (ℕ → ℕ → Option (List (End × Event (Shape K)))) → SeatValue → Call (Shape K) → Type 0
IsNextCall calls seat call = IsNextOf (calls seat.number seat.caller) seat.calls (call.end, Asked call.request)

-- the number of calls that each caller has made, and whether each call was the next one of its seat
pub record CallCountsValue : Type 0 where
  pub counts : List ℕ
  pub in_turn : Bool

-- the state under the lock: the number of the shared stream, the stream with its history, the counts, and the
-- inlet for messages
pub record SharedStateValue (K : Type 0) : Type 0 where
  pub number : ℕ
  pub log : LogValue K
  pub turns : CallCountsValue
  pub inlet : InletValue

-- ---- definitions that no public clause cites

-- whether the caller has a count, and it is the seat's
abbrev pub has_count : SeatValue → List ℕ → Bool
has_count seat counts = nat_lt seat.caller (length counts) && get_or counts seat.caller 0 == seat.calls

-- the calls are in turn, those of as many callers, and each seat counts as many as its caller has made
abbrev pub SeatsAgree : CallCountsValue → ℕ → List SeatValue → Type 0
SeatsAgree turns callers seats =
    (turns.in_turn ≡ true) × (length turns.counts ≡ callers) × All (λ seat. has_count seat turns.counts ≡ true) seats

-- no caller has made a call
abbrev pub fresh_counts : ℕ → CallCountsValue
fresh_counts callers = record { counts = replicate callers 0; in_turn = true }

-- the counts after a call from a seat that was next or not, and has counted it
abbrev pub counts_after : Bool → SeatValue → CallCountsValue → CallCountsValue
counts_after was_next seat turns =
    if was_next then record { counts = set turns.counts seat.caller seat.calls; in_turn = turns.in_turn } else record { counts = turns.counts; in_turn = false }

-- whether the next call of its caller on the stream of this number is one of this seat
abbrev pub is_next : ℕ → SeatValue → List ℕ → Bool
is_next number seat counts = seat.number == number && has_count seat counts

-- a call is counted where its seat was next; else the calls are not in turn any more
abbrev pub counted : ℕ → SeatValue → CallCountsValue → CallCountsValue
counted number seat turns =
    if is_next number seat turns.counts then record { counts = set turns.counts seat.caller (seat.calls + 1); in_turn = turns.in_turn } else record { counts = turns.counts; in_turn = false }

-- the turns after a call: one that was made is counted, and no other
abbrev pub turned : {P K A : Type 0} → ℕ → SeatValue → Called P K A → CallCountsValue → CallCountsValue
turned number seat (Done answer back receipt) turns = counted number seat turns
turned number seat (NoRoom same) turns = turns

-- the counts are those of the history. The line, or a caller with a count, made each step. The calls of each
-- caller are the first of those that it may make
pub record AreInTurn {K : Type 0} (calls : ℕ → Option (List (End × Event (Shape K)))) (counts : List ℕ) (history : List (Entry K)) : Type 0 where
  pub counts_are : (caller : ℕ) → caller < length counts → get_or counts caller 0 ≡ calls_of caller history
  pub seated : AreFromSeats (length counts) history
  pub first : FollowsCalls calls history

-- as long as the calls are in turn they are so in the history
abbrev pub KeepsTurns : {K : Type 0} → (ℕ → Option (List (End × Event (Shape K)))) → CallCountsValue → List (Entry K) → Type 0
KeepsTurns calls turns history = turns.in_turn ≡ true → AreInTurn calls turns.counts history

-- as long as the calls are in turn they are so in the history. The messages that came in are those that have
-- left the inlet. The inlet is the stream's, and has a ring where that is a line
pub record IsSharedState {K : Type 0} (calls : ℕ → Option (List (End × Event (Shape K)))) (number : ℕ) (log : LogValue K) (turns : CallCountsValue) (inlet : InletValue) : Type 0 where
  pub in_turn : KeepsTurns calls turns log.history
  pub came_in : arrivals log.history ≡ inlet.came
  pub of : inlet.number ≡ number
  pub fed : inlet.is_fed ≡ is_line log.setup.driver
