-- Calls that wait until they need not, and steps after which they look again.
use Rattle.std.specs.Prelude.{◌≡◌, ◌≢◌, ℕ, Bool, true, false, not, Some, IfSome, List, drop, Any, ⊤}
use Rattle.strm_module.specs.declared.shape.Shape.{Shape}
use Rattle.strm_module.specs.Kinds.{Meaning}
use Rattle.strm_chain_ends.specs.Image.{Image}
use Rattle.strm_head_calls.specs.declared.request.Request.{Request}
use Rattle.strm_head_calls.specs.declared.request.Request.TheVariants.{Nread, Peek, GetRead, Canput, Ckband, Getband, Look, Find, Poll}
use Rattle.strm_head_calls.specs.declared.refusal.Refusal.TheVariants.{WouldWait}
use Rattle.strm_head_calls.specs.declared.answer.Answer.{Answer}
use Rattle.strm_head_calls.specs.declared.answer.Answer.TheVariants.{Refused}
use Rattle.strm_head_calls.specs.declared.call.Call.{Call}
use Rattle.strm_head_calls.specs.declared.event.Event.{Event}
use Rattle.strm_head_calls.specs.declared.event.Event.TheVariants.{Asked, Arrived}
use Rattle.strm_head.specs.Effects.{refusal_of}
use Rattle.strm_shared_entry.specs.Entry.{Entry}
use Rattle.strm_shared_entry.specs.declared.call.Called.{Called}
use Rattle.strm_shared_entry.specs.declared.call.Called.TheVariants as Calls
use Rattle.strm_shared.specs.declared.state.Readiness.{Readiness}
use Rattle.strm_shared.specs.declared.state.Readiness.TheVariants.{Ready, Waits, NoMem}

-- the answer of a call that was made is not that it would have to wait (EAGAIN). The caller's copy agrees
-- with this answer, and so does the entry that the receipt shows. Of a call that comes back nothing is said
abbrev pub WaitedFor : {P K A : Type 0} → (A → Answer → Type 0) → Called P K A → Type 0
WaitedFor Agrees (Calls.Done has back receipt) =
    (answer : Answer) × Agrees has answer × (answer ≢ Refused WouldWait) × IfSome receipt (λ r. r.entry.answer ≡ answer)
WaitedFor Agrees (Calls.NoRoom same) = ⊤

-- ---- definitions that no public clause cites

-- a call must wait: made on such a stream, it would be refused with EAGAIN
abbrev pub MustWait : {K : Type 0} → Meaning K → Image K → Call (Shape K) → Type 0
MustWait means image call = refusal_of means image call.end call.request ≡ Some WouldWait

-- it need not
abbrev pub NeedNotWait : {K : Type 0} → Meaning K → Image K → Call (Shape K) → Type 0
NeedNotWait means image call = MustWait means image call → ⊥

-- so a look at the stream foretells, if there was memory for the messages that come in before it
abbrev pub Foretells : {K : Type 0} → Meaning K → Image K → Call (Shape K) → Readiness → Type 0
Foretells means image call Ready = NeedNotWait means image call
Foretells means image call Waits = MustWait means image call
Foretells means image call NoMem = ⊤

-- whether there was memory for each of these messages
abbrev pub has_memory : Readiness → Bool
has_memory NoMem = false
has_memory readiness = true

-- the calls that only look at the stream, and leave it as it is
abbrev pub only_looks : {P : Type 0} → Request P → Bool
only_looks Nread = true
only_looks (Peek maxctl maxdat flag) = true
only_looks GetRead = true
only_looks (Canput band) = true
only_looks (Ckband band) = true
only_looks Getband = true
only_looks Look = true
only_looks Request.List = true
only_looks (Find name) = true
only_looks Poll = true
only_looks request = false

-- the steps of an event that may change the stream, by their answer: those of a message that came in, and
-- those of a call that was not refused and does not only look
abbrev pub changes_by : {P : Type 0} → Event P → Answer → Bool
changes_by event (Refused refusal) = false
changes_by (Asked request) answer = not (only_looks request)
changes_by (Arrived m) answer = true

abbrev pub may_change : {K : Type 0} → Entry K → Bool
may_change entry = changes_by entry.event entry.answer

-- a step may have changed the stream since its history had this many entries
abbrev pub HasNews : {K : Type 0} → ℕ → List (Entry K) → Type 0
HasNews before history = Any (λ e. may_change e ≡ true) (drop before history)
