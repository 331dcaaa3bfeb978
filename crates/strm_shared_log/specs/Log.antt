-- The effect of a call and of an arrival on a stream that keeps its history.
use Rattle.std.specs.Prelude.{◌≡◌, ◌<◌, ℕ, true, false, List, [], ◌∷◌, ◌++◌, Bool, Option, IfSome, flat_map}
use Rattle.strm_msg.specs.Message.{Msg}
use Rattle.strm_msg.specs.declared.words.End.{End}
use Rattle.strm_msg.specs.declared.words.End.TheVariants.{A}
use Rattle.strm_module.specs.Kinds.{Meaning}
use Rattle.strm_module.specs.declared.shape.Shape.{Shape}
use Rattle.strm_chain_ends.specs.Image.{Image}
use Rattle.strm_head_calls.specs.declared.answer.Answer.{Answer}
use Rattle.strm_head_calls.specs.declared.setup.Setup.{Setup}
use Rattle.strm_head_calls.specs.declared.call.Call.{Call}
use Rattle.strm_head_calls.specs.declared.event.Event.{Event}
use Rattle.strm_head_calls.specs.declared.event.Event.TheVariants.{Asked, Arrived}
use Rattle.strm_head.specs.Effects.{back_of}
use Rattle.strm_head.specs.Step.{can_arrive}
use Rattle.strm_shared_entry.specs.declared.entry.Who.{Who}
use Rattle.strm_shared_entry.specs.declared.entry.Who.TheVariants.{Caller, Line}
use Rattle.strm_shared_entry.specs.Entry.{Entry}
use Rattle.strm_shared_entry.specs.declared.call.Called.{Called}
use Rattle.strm_shared_entry.specs.declared.call.Called.TheVariants.{Done, NoRoom}
use Rattle.strm_shared_entry.specs.declared.call.Landed.{Landed}
use Rattle.strm_shared_entry.specs.declared.call.Landed.TheVariants.{Entered, Full, NoMem}
use Rattle.strm_shared_entry.specs.Entry.{serial_of}
use Rattle.strm_shared_entry.specs.Receipt.{ReceiptValue}
use Rattle.strm_shared_log.specs.Opened.{opened}
use Rattle.strm_shared_log.specs.Steps.{due_back, IsStep}

-- a stream with its history: its setup, its image, its history, the last part of the history, which was not
-- handed out, and the number of further entries for which there is room
pub record LogValue (K : Type 0) : Type 0 where
  pub setup : Setup
  pub image : Image K
  pub history : List (Entry K)
  pub kept : List (Entry K)
  pub room : ℕ

-- a stream that was just made, without a history
abbrev pub fresh_log : {K : Type 0} → Setup → LogValue K
fresh_log setup = record { setup = setup; image = opened setup; history = []; kept = []; room = 0 }

-- the same stream with the same history, whatever room there is
pub record IsSameLog {K : Type 0} (old new : LogValue K) : Type 0 where
  pub setup : new.setup ≡ old.setup
  pub image : new.image ≡ old.image
  pub history : new.history ≡ old.history
  pub kept : new.kept ≡ old.kept

-- the same stream, all of whose history was handed out
pub record HasHandedOut {K : Type 0} (old new : LogValue K) : Type 0 where
  pub setup : new.setup ≡ old.setup
  pub image : new.image ≡ old.image
  pub history : new.history ≡ old.history
  pub none : new.kept ≡ []

-- it was handed out, or nothing is changed
abbrev pub HandsOutIf : {K : Type 0} → Bool → LogValue K → LogValue K → Type 0
HandsOutIf true old new = HasHandedOut old new
HandsOutIf false old new = IsSameLog old new

-- room for one entry is still there, if it was there
abbrev pub LeavesRoom : {K : Type 0} → LogValue K → LogValue K → Type 0
LeavesRoom old new = 0 < old.room → 0 < new.room

-- the caller has an equal answer
abbrev pub Equals : Answer → Answer → Type 0
Equals has answer = has ≡ answer

-- for kinds of any meaning
module _ {K : Type 0} (means : Meaning K) where
  -- one step more, by this caller or line, to this event at this end, with this answer: the history has it at
  -- its end
  pub record Enters (old : LogValue K) (maker : Who) (at_end : End) (happened : Event (Shape K)) (answered : Answer) (new : LogValue K) : Type 0 where
    pub entry : Entry K
    pub by : entry.who ≡ maker
    pub at : entry.end ≡ at_end
    pub has : entry.event ≡ happened
    pub answers : entry.answer ≡ answered
    pub step : IsStep means old.image entry new.image
    pub history : new.history ≡ old.history ++ entry ∷ []
    pub kept : new.kept ≡ old.kept ++ entry ∷ []
    pub setup : new.setup ≡ old.setup

  -- a call that was made: a step that the history has, whose answer and modules the caller has, and whose
  -- entry the receipt shows, if there is one
  pub record IsCalled (old : LogValue K) (caller number : ℕ) (call : Call (Shape K)) (answer : Answer) (back : List (Option (Shape K))) (receipt : Option (ReceiptValue K)) (new : LogValue K) : Type 0 where
    pub enters : Enters old (Caller caller) call.end (Asked call.request) answer new
    pub comes_back : back ≡ back_of means old.image call.end call.request answer
    pub handed : flat_map serial_of back ≡ due_back enters.entry.event answer enters.entry.out.items
    pub shown : IfSome receipt (λ r. r ≡ record { caller = caller; number = number; entry = enters.entry })

  -- the caller's call of this number is made, and the copy of the answer that its caller has agrees with it,
  -- or it comes back and changes nothing
  abbrev pub CallsBy : {A : Type 0} → (A → Answer → Type 0) → LogValue K → ℕ → ℕ → Call (Shape K) → Called (Shape K) K A → LogValue K → Type 0
  CallsBy Agrees old caller number call (Done has back receipt) new =
      (answer : Answer) × Agrees has answer × IsCalled old caller number call answer back.items receipt new
  CallsBy Agrees old caller number call (NoRoom same) new = (same ≡ call) × IsSameLog old new

  -- a message that came in: a step that the history has
  pub record HasLanded (old : LogValue K) (m : Msg) (new : LogValue K) : Type 0 where
    pub answer : Answer
    pub enters : Enters old Line A (Arrived m) answer new

  -- a message comes in, or comes back and changes nothing: with Full exactly where it cannot come in, and
  -- else when memory runs out
  abbrev pub Lands : LogValue K → Msg → Landed → LogValue K → Type 0
  Lands old m Entered new = HasLanded old m new
  Lands old m (Full same) new = (can_arrive old.image A m ≡ false) × (same ≡ m) × IsSameLog old new
  Lands old m (NoMem same) new = (can_arrive old.image A m ≡ true) × (same ≡ m) × IsSameLog old new
