-- A shared stream and its seats as a contract sees them, the modules that come back of a call, and the
-- conditions of the end.
use Rattle.std.specs.Prelude.{◌≡◌, ℕ, ◌+◌, ◌<◌, ◌==◌, zero, suc, not, Bool, true, Option, Some, None, IfSome, List, [], ◌∷◌, ◌++◌, length, map, flat_map, is_some, All, Any, ⊤}
use Rattle.strm_module.specs.declared.shape.Shape.{Shape}
use Rattle.strm_module.specs.Driver.{is_line}
use Rattle.strm_module.specs.Kinds.{Meaning}
use Rattle.strm_head_calls.specs.declared.request.Request.{Request}
use Rattle.strm_head_calls.specs.declared.request.Request.TheVariants as Requests
use Rattle.strm_head_calls.specs.declared.answer.Reply.{Reply}
use Rattle.strm_head_calls.specs.declared.answer.Reply.TheVariants as ReplyOf
use Rattle.strm_head_calls.specs.declared.answer.Answer.{Answer}
use Rattle.strm_head_calls.specs.declared.answer.Answer.TheVariants as Answers
use Rattle.strm_head_calls.specs.declared.setup.Setup.{Setup}
use Rattle.strm_head_calls.specs.declared.call.Call.{Call}
use Rattle.strm_head_calls.specs.declared.event.Event.TheVariants.{Asked}
use Rattle.strm_head.specs.Effects.{pushed_of, handed_out}
use Rattle.strm_shared_entry.specs.declared.entry.Who.TheVariants.{Caller}
use Rattle.strm_shared_entry.specs.Entry.{Entry}
use Rattle.strm_shared_entry.specs.declared.call.Called.{Called}
use Rattle.strm_shared_entry.specs.declared.call.Called.TheVariants.{Done, NoRoom}
use Rattle.strm_shared_entry.specs.Entry.{asked_of, serial_of}
use Rattle.strm_shared_ended.specs.Ended.{EndedValue}
use Rattle.strm_shared_log.specs.History.{Legal}
use Rattle.strm_shared_log.specs.Opened.{opened}
use Rattle.strm_shared_log.specs.Steps.{due_back}
use Rattle.strm_shared_entry.specs.Own.{calls_of, arrivals}
use Rattle.strm_shared_entry.specs.Receipt.{ReceiptValue, EntryRoomValue}
use Rattle.strm_shared_ring.specs.Feed.{FeedValue, accepted_of}
use Rattle.strm_shared.specs.Seat.{SeatValue, after_call}
use Rattle.strm_shared.specs.CallCounts.{SharedStateValue, SeatsAgree}

-- a shared stream: its number, its setup, and how many callers it has
pub record SharedValue : Type 0 where
  pub number : ℕ
  pub setup : Setup
  pub seats : ℕ

-- a seat for each caller, that has made no call
abbrev pub fresh_seats : ℕ → ℕ → List SeatValue
fresh_seats number zero = []
fresh_seats number (suc callers) = fresh_seats number callers ++ record { number = number; caller = callers; calls = 0; shown = true } ∷ []

-- each caller has a seat
abbrev pub HasEachCaller : ℕ → List SeatValue → Type 0
HasEachCaller callers seats = (caller : ℕ) → caller < callers → Any (λ s. s.caller ≡ caller) seats

-- as many seats as callers, all of one stream, and one for each caller
pub record AreSeats (number callers : ℕ) (seats : List SeatValue) : Type 0 where
  pub many : length seats ≡ callers
  pub of_one : All (λ s. s.number ≡ number) seats
  pub each : HasEachCaller callers seats

-- each call that was made from these seats has a receipt
abbrev pub AreShown : List SeatValue → Type 0
AreShown seats = All (λ s. s.shown ≡ true) seats

-- room for the seat's next call
abbrev pub room_of : {K : Type 0} → SeatValue → Call (Shape K) → EntryRoomValue K
room_of seat call = record { caller = seat.caller; number = seat.calls + 1; end = call.end; event = Asked call.request }

-- the seat counts a call that was made, and no other, and whether all have receipts
abbrev pub Counted : {P K A : Type 0} → Call P → SeatValue → Called P K A → SeatValue → Type 0
Counted call seat (Done answer back receipt) after = after ≡ after_call seat (is_some receipt)
Counted call seat (NoRoom same) after = after ≡ seat

-- the answer has this reply, if it has one
abbrev pub Replies : Answer → Reply → Type 0
Replies (Answers.Done own) reply = own ≡ reply
Replies (Answers.Refused refusal) reply = ⊤
Replies Answers.Broke reply = ⊤

-- the modules that a call takes out come back: of a pop one, which the reply names; of a close some, topmost
-- first, which the reply names in this order; of another call none
abbrev pub HandsOut : {K : Type 0} → Request (Shape K) → Answer → List (Option (Shape K)) → Type 0
HandsOut {K} Requests.Pop answer back = (one : Shape K) × Replies answer (ReplyOf.Pop one.name) × (back ≡ Some one ∷ [])
HandsOut {K} Requests.Close answer back =
    (all : List (Shape K)) × Replies answer (ReplyOf.Close (record { items = map (λ s. s.name) all })) × (back ≡ handed_out all)
HandsOut request answer back = back ≡ []

-- the modules that a call hands back: of a refused call the one that it was to push, of another those that it
-- has taken out
abbrev pub HandsBackMade : {K : Type 0} → Call (Shape K) → Answer → List (Option (Shape K)) → Type 0
HandsBackMade call (Answers.Refused refusal) back = back ≡ pushed_of call.request
HandsBackMade call (Answers.Done reply) back = HandsOut call.request (Answers.Done reply) back
HandsBackMade call Answers.Broke back = HandsOut call.request Answers.Broke back

-- the modules that a call hands back: so it is of a call that was made, by an answer with which the caller's
-- copy agrees. A call that was not made comes back
abbrev pub HandsBack : {K A : Type 0} → (A → Answer → Type 0) → Call (Shape K) → Called (Shape K) K A → Type 0
HandsBack Agrees call (Done has back receipt) = (answer : Answer) × Agrees has answer × HandsBackMade call answer back.items
HandsBack Agrees call (NoRoom same) = same ≡ call

-- a receipt of a seat's next call. The entry that it shows has this caller, end and request. The modules that
-- came back are those that a call with the entry's answer hands back, with the serials for which the entry
-- accounts
pub record IsReceiptOf {K : Type 0} (seat : SeatValue) (call : Call (Shape K)) (back : List (Option (Shape K))) (receipt : ReceiptValue K) : Type 0 where
  pub caller : receipt.caller ≡ seat.caller
  pub number : receipt.number ≡ seat.calls + 1
  pub by : receipt.entry.who ≡ Caller seat.caller
  pub asked : asked_of receipt.entry ≡ (call.end, Asked call.request)
  pub made : HandsBackMade call receipt.entry.answer back
  pub handed : flat_map serial_of back ≡ due_back receipt.entry.event receipt.entry.answer receipt.entry.out.items

-- so is the receipt of a call that was made, if it has one, and the copy of the answer that the caller has
-- agrees with the answer of the entry
abbrev pub Shows : {K A : Type 0} → (A → Answer → Type 0) → SeatValue → Call (Shape K) → Called (Shape K) K A → Type 0
Shows Agrees seat call (Done has back receipt) =
    IfSome receipt (λ r. Agrees has r.entry.answer × IsReceiptOf seat call back.items r)
Shows Agrees seat call (NoRoom same) = ⊤

-- each caller has made as many calls as its seat counts
abbrev pub CountsAgree : {K : Type 0} → List (Entry K) → List SeatValue → Type 0
CountsAgree history seats = All (λ s. calls_of s.caller history ≡ s.calls) seats

-- a line's feeder has ended; the other drivers have none
abbrev pub is_fed : ℕ → Setup → Option FeedValue → Bool
is_fed number setup None = not (is_line setup.driver)
is_fed number setup (Some feed) = feed.number == number

-- these are the seats, and a line's feeder has ended, but a call has no receipt
abbrev pub LacksReceipt : SharedValue → List SeatValue → Option FeedValue → Type 0
LacksReceipt shared seats feed =
    AreSeats shared.number shared.seats seats × (is_fed shared.number shared.setup feed ≡ true) × (AreShown seats → ⊥)

-- the history leads by steps from a stream that was just opened to the one that is there
abbrev pub IsLegalEnd : {K : Type 0} → Meaning K → Setup → EndedValue K → Type 0
IsLegalEnd means setup ended = Legal means (opened setup) ended.history ended.stream

-- the messages that came in, and those that are left, are those that the feeder had accepted
abbrev pub HasAccepted : {K : Type 0} → EndedValue K → Option FeedValue → Type 0
HasAccepted ended feed = arrivals ended.history ++ ended.left ≡ accepted_of feed

-- the state under the lock is the stream's; its calls are in turn, those of as many callers, and as many of
-- each as its seat counts; and a line's feeder has ended (no public clause cites it)
abbrev pub IsFinished : {K : Type 0} → ℕ → Setup → ℕ → SharedStateValue K → List SeatValue → Option FeedValue → Type 0
IsFinished number setup callers locked seats feed =
    ((locked.number ≡ number) × (locked.log.setup ≡ setup)) × (is_fed number setup feed ≡ true) × SeatsAgree locked.turns callers seats

-- the seats are the stream's, which has not ended (no public clause cites it)
abbrev pub IsUnfinished : {K : Type 0} → ℕ → Setup → ℕ → SharedStateValue K → List SeatValue → Option FeedValue → Type 0
IsUnfinished number setup callers locked seats feed =
    AreSeats number callers seats × (IsFinished number setup callers locked seats feed → ⊥)

-- or it has, and a call has no receipt (no public clause cites it)
abbrev pub IsUnshown : {K : Type 0} → ℕ → Setup → ℕ → SharedStateValue K → List SeatValue → Option FeedValue → Type 0
IsUnshown number setup callers locked seats feed =
    AreSeats number callers seats × IsFinished number setup callers locked seats feed × (AreShown seats → ⊥)
