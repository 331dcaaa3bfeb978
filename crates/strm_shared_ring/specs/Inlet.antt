-- The stream's end of a ring, as a contract sees it.
use Rattle.std.specs.Prelude.{◌≡◌, ℕ, ◌-◌, ◌++◌, Bool, true, false, Option, Some, None, List, [], length, take, IfSome, MatchOption, ◌∷◌}
use Rattle.std.specs.Option.{option_map, option_to_list}
use Rattle.std.specs.Global.{Global}
use Rattle.rtrb.specs.declared.consumer.Consumer.{Consumer}
use Rattle.rtrb.specs.Ring.{received}
use Rattle.strm_msg.specs.Message.{Msg}
use Rattle.strm_msg.specs.Kind.{is_from_line}
use Rattle.strm_shared_ring.specs.Name.{RingName, consumer_name}
use Rattle.strm_shared_ring.specs.Feed.{FeedValue}

-- an inlet: the number of the stream, whether it is fed through a ring, the messages that have left the
-- inlet, in order, and the one that is held back
pub record InletValue : Type 0 where
  pub number : ℕ
  pub is_fed : Bool
  pub came : List Msg
  pub held : Option Msg

-- an inlet out of which nothing has come
abbrev pub fresh_inlet : ℕ → Bool → InletValue
fresh_inlet number is_fed = record { number = number; is_fed = is_fed; came = []; held = None }

-- the message that leaves an inlet next
abbrev pub LeavesNext : InletValue → Msg → InletValue → Type 0
LeavesNext old m new = new ≡ record old { came = old.came ++ m ∷ []; held = None }

-- the message that has left last is held back
abbrev pub HoldsBack : InletValue → Msg → InletValue → Type 0
HoldsBack old m new = (before : List Msg) → old.came ≡ before ++ m ∷ [] → new ≡ record old { came = before; held = Some m }

-- what is left grows as the list of all does, whatever messages came before (no public clause cites it)
abbrev pub GrowsWith : List Msg → List Msg → List Msg → List Msg → Type 0
GrowsWith left all more every = (came : List Msg) → came ++ left ≡ all → came ++ more ≡ every

-- all that was taken out of the ring, if there is one
abbrev pub taken_of : {P : Type 0} → Option (Consumer Msg Global P) → List Msg
taken_of None = []
taken_of (Some ring) = received ring

-- of the messages that were taken out of the ring those that have left: all but the one that is held back,
-- the last
abbrev pub came_of : List Msg → Option Msg → List Msg
came_of taken None = taken
came_of taken (Some m) = take (length taken - 1) taken

-- the ring is the one of this name. The messages that have left and the one that is held back are all that
-- were taken out of it
pub record IsInlet {P : Type 0} (name : Option RingName) (ring : Option (Consumer Msg Global P)) (held : Option Msg) : Type 0 where
  pub named : name ≡ option_map consumer_name ring
  pub all : came_of (taken_of ring) held ++ option_to_list held ≡ taken_of ring
  pub line : IfSome held (λ m. is_from_line m.kind ≡ true)

-- the feeder of the stream has ended, or there is none, nor a ring
abbrev pub HasFed : InletValue → Option FeedValue → Type 0
HasFed inlet feed = MatchOption feed (inlet.is_fed ≡ false) (λ f. f.number ≡ inlet.number)
