-- Messages that come in from a line before a call is made. No public clause cites the definitions here.
use Rattle.std.specs.Prelude.{◌≡◌, ◌<◌, ◌≤◌, ◌+◌, ℕ, Bool, true, false, List, [], ◌∷◌, Option, Some, IfSome, length, ◌⊎◌}
use Rattle.strm_msg.specs.Message.{Msg}
use Rattle.strm_msg.specs.declared.words.End.TheVariants.{A}
use Rattle.strm_module.specs.Driver.{is_line}
use Rattle.strm_module.specs.Kinds.{Meaning}
use Rattle.strm_module.specs.declared.shape.Shape.{Shape}
use Rattle.strm_head_calls.specs.declared.answer.Answer.{Answer}
use Rattle.strm_head_calls.specs.declared.call.Call.{Call}
use Rattle.strm_head.specs.Step.{can_arrive}
use Rattle.strm_shared_entry.specs.declared.call.Called.{Called}
use Rattle.strm_shared_entry.specs.declared.call.Called.TheVariants.{Done, NoRoom}
use Rattle.strm_shared_log.specs.Log.{LogValue, HasLanded, CallsBy, IsSameLog}
use Rattle.strm_shared.specs.CallCounts.{SharedStateValue}
use Rattle.strm_shared.specs.Seat.{SeatValue}
use Rattle.strm_shared.specs.declared.state.Intake.{Intake}
use Rattle.strm_shared.specs.declared.state.Intake.TheVariants.{Entered, HeldBack, NoMem}

-- a message is held back that could come in: memory ran out for it
abbrev pub HeldForMemory : {K : Type 0} → LogValue K → Option Msg → Type 0
HeldForMemory log held = (m : Msg) × (held ≡ Some m) × (can_arrive log.image A m ≡ true)

-- none is held back, or one that cannot come in
abbrev pub AllWait : {K : Type 0} → LogValue K → Option Msg → Type 0
AllWait log held = IfSome held (λ m. can_arrive log.image A m ≡ false)

-- for kinds of any meaning
module _ {K : Type 0} (means : Meaning K) where
  -- the next message came in; or nothing is changed, as none can, or as memory ran out for the one that is
  -- held back
  abbrev pub Intakes : LogValue K → Intake → LogValue K → Option Msg → Type 0
  Intakes old Entered new held = (m : Msg) × HasLanded means old m new
  Intakes old HeldBack new held = IsSameLog old new × AllWait new held
  Intakes old NoMem new held = IsSameLog old new × HeldForMemory new held

  -- these messages came in, in order, and nothing else happened
  abbrev pub TakesIn : LogValue K → List Msg → LogValue K → Type 0
  TakesIn old [] new = IsSameLog old new
  TakesIn old (m ∷ rest) new = (next : LogValue K) × HasLanded means old m next × TakesIn next rest new

  -- this many messages came in
  pub record ComesIn (many : ℕ) (old new : LogValue K) : Type 0 where
    pub came : List Msg
    pub takes : TakesIn old came new
    pub many_came : length came ≡ many

  -- the reason for which no more came in than did: the stream is no line, or as many did as its ring holds,
  -- or none can; or else memory ran out for the next one
  abbrev pub NoMoreCome : LogValue K → ℕ → Bool → LogValue K → Option Msg → Type 0
  NoMoreCome old many true new held = is_line old.setup.driver ≡ true → many < old.setup.ring → AllWait new held
  NoMoreCome old many false new held = HeldForMemory new held

  -- messages came in, as many as the ring holds at most: all that can, unless memory ran out for one
  pub record TakesAll (old : LogValue K) (has_memory : Bool) (new : LogValue K) (held : Option Msg) : Type 0 where
    pub many : ℕ
    pub few : many ≤ old.setup.ring
    pub comes : ComesIn many old new
    pub stops : NoMoreCome old many has_memory new held

  -- the reason for which a call comes back: memory ran out for its place, before any message came in; or it
  -- ran out for a message
  abbrev pub ComesBack : LogValue K → LogValue K → Option Msg → Type 0
  ComesBack old before held = IsSameLog old before ⊎ TakesAll old false before held

  -- the stream that a call finds: behind the messages that came in
  abbrev pub Finds : {A : Type 0} → LogValue K → Called (Shape K) K A → LogValue K → Option Msg → Type 0
  Finds old (Done answer back receipt) before held = TakesAll old true before held
  Finds old (NoRoom same) before held = ComesBack old before held

  -- messages came in, and then the call was made; or it came back
  pub record CallsAfter {A : Type 0} (Agrees : A → Answer → Type 0) (old : LogValue K) (caller number : ℕ) (call : Call (Shape K)) (result : Called (Shape K) K A) (new : LogValue K) (held : Option Msg) : Type 0 where
    pub before : LogValue K
    pub finds : Finds old result before held
    pub calls : CallsBy means Agrees before caller number call result new

  -- the next call of a seat is made
  abbrev pub SeatCalls : {A : Type 0} → (A → Answer → Type 0) → SharedStateValue K → SeatValue → Call (Shape K) → Called (Shape K) K A → SharedStateValue K → Type 0
  SeatCalls Agrees old seat call result new = CallsBy means Agrees old.log seat.caller (seat.calls + 1) call result new.log

  -- behind messages that came in
  abbrev pub SeatCallsAfter : {A : Type 0} → (A → Answer → Type 0) → SharedStateValue K → SeatValue → Call (Shape K) → Called (Shape K) K A → SharedStateValue K → Type 0
  SeatCallsAfter Agrees old seat call result new =
      CallsAfter Agrees old.log seat.caller (seat.calls + 1) call result new.log new.inlet.held
