-- One end of a stream: the head, the modules with their queues, and the driver's list (Programmer's Guide:
-- STREAMS, "Overview of STREAMS": stream head, modules, driver).
use Rattle.std.specs.Prelude.{◌≤◌, ◌+◌, ℕ, Bool, Option, Some, None, List, [], map, slice_get, slice_set, suc, zero}
use Rattle.strm_msg.specs.Message.{Msg}
use Rattle.strm_msg.specs.declared.words.Side.{Side}
use Rattle.strm_msg.specs.Marks.{WaterMarks}
use Rattle.strm_queue.specs.Room.{room_for}
use Rattle.strm_module.specs.Kinds.{OutList, Meaning}
use Rattle.strm_module.specs.declared.shape.Shape.{Shape}
use Rattle.strm_chain_end.specs.Pair.{QueuePair, list_on, served_on, pair_gets, pair_serves, expired_pair}
use Rattle.strm_chain_end.specs.declared.record.Record.{Record}

-- the head's list and record, the modules topmost first, and the driver's list, with the marks of both lists
pub record EndState (K : Type 0) : Type 0 where
  pub is_open : Bool
  pub head_marks : WaterMarks
  pub head : List Msg
  pub state : Record
  pub modules : List (QueuePair K)
  pub drv_marks : WaterMarks
  pub drv : List Msg

-- an end, and for each rank the number of messages that the head's list and the driver's take without memory
pub record EndValue (K : Type 0) : Type 0 where
  pub state : EndState K
  pub head_room : List ℕ
  pub drv_room : List ℕ

-- no rank loses room in a list
abbrev pub KeepsRoom : List ℕ → List ℕ → Type 0
KeepsRoom old new = (rank : ℕ) → room_for old rank ≤ room_for new rank

-- each rank loses room for at most one message
abbrev pub SpendsOne : List ℕ → List ℕ → Type 0
SpendsOne old new = (rank : ℕ) → room_for old rank ≤ room_for new rank + 1

abbrev pub in_head : {K : Type 0} → EndState K → List Msg → EndState K
in_head e q = record e { head = q }

abbrev pub in_state : {K : Type 0} → EndState K → Record → EndState K
in_state e r = record e { state = r }

abbrev pub in_drv : {K : Type 0} → EndState K → List Msg → EndState K
in_drv e q = record e { drv = q }

-- the shapes of the modules, topmost first
abbrev pub shapes_of : {K : Type 0} → EndState K → List (Shape K)
shapes_of e = map (λ s. s.shape) e.modules

-- modules are counted from 1, which is the topmost
abbrev pub pair_at : {K : Type 0} → List (QueuePair K) → ℕ → Option (QueuePair K)
pair_at modules zero = None
pair_at modules (suc i) = slice_get modules i

abbrev pub set_pair : {K : Type 0} → List (QueuePair K) → ℕ → QueuePair K → List (QueuePair K)
set_pair modules zero s = modules
set_pair modules (suc i) s = slice_set modules i s

abbrev pub list_found : {K : Type 0} → Option (QueuePair K) → Side → List Msg
list_found None side = []
list_found (Some s) side = list_on s side

-- the messages of a queue of a module, none where there is no such module
abbrev pub list_at : {K : Type 0} → EndState K → ℕ → Side → List Msg
list_at e i side = list_found (pair_at e.modules i) side

-- those of them that the stream serves
abbrev pub served_found : {K : Type 0} → Option (QueuePair K) → Side → List Msg
served_found None side = []
served_found (Some s) side = served_on s side

abbrev pub served_at : {K : Type 0} → EndState K → ℕ → Side → List Msg
served_at e i side = served_found (pair_at e.modules i) side

-- an end afterwards, and the messages that one of its modules sends
pub record EndStep (K : Type 0) : Type 0 where
  pub state : EndState K
  pub outs : OutList

-- for kinds of any meaning
module _ {K : Type 0} (means : Meaning K) where
  abbrev pub found_gets : EndState K → ℕ → Option (QueuePair K) → Side → Msg → EndStep K
  found_gets e i None side m = record { state = e; outs = [] }
  found_gets e i (Some s) side m =
      let g = pair_gets means s side m in record { state = record e { modules = set_pair e.modules i g.pair }; outs = g.outs }

  -- a message comes to a module
  abbrev pub end_gets : EndState K → ℕ → Side → Msg → EndStep K
  end_gets e i side m = found_gets e i (pair_at e.modules i) side m

  abbrev pub found_serves : EndState K → ℕ → Option (QueuePair K) → Side → EndStep K
  found_serves e i None side = record { state = e; outs = [] }
  found_serves e i (Some s) side =
      let g = pair_serves means s side in record { state = record e { modules = set_pair e.modules i g.pair }; outs = g.outs }

  -- a module serves the first message of its queue of a side
  abbrev pub end_serves : EndState K → ℕ → Side → EndStep K
  end_serves e i side = found_serves e i (pair_at e.modules i) side

  -- so many ticks pass for the modules of the end, and nothing else changes (timeout(9F))
  abbrev pub expired_end : EndState K → ℕ → EndState K
  expired_end e ticks = record e { modules = map (λ s. expired_pair means s ticks) e.modules }

  -- the same for one of them alone
  abbrev pub found_expired : EndState K → ℕ → Option (QueuePair K) → ℕ → EndState K
  found_expired e i None ticks = e
  found_expired e i (Some s) ticks = record e { modules = set_pair e.modules i (expired_pair means s ticks) }

  abbrev pub expired_at : EndState K → ℕ → ℕ → EndState K
  expired_at e i ticks = found_expired e i (pair_at e.modules i) ticks
