-- The first queue ahead, and whether it is full or slack in a band (Programmer's Guide: STREAMS, "Flow
-- Control"; bcanput(9F): the next queue that has a service procedure).
use Rattle.std.specs.Prelude.{ℕ, ◌-◌, Bool, true, false, Option, Some, None, List, [], ◌∷◌, if◌then◌else◌, take, drop, reverse}
use Rattle.strm_msg.specs.Message.{Msg}
use Rattle.strm_msg.specs.declared.words.Side.{Side}
use Rattle.strm_msg.specs.declared.words.Side.TheVariants.{Rd, Wr}
use Rattle.strm_msg.specs.Marks.{WaterMarks}
use Rattle.strm_queue.specs.Queue.{Queue, is_full, is_slack}
use Rattle.strm_module.specs.Shape.{marks_on}
use Rattle.strm_module.specs.declared.driver.Driver.{Driver}
use Rattle.strm_module.specs.declared.driver.Driver.TheVariants.{Echo, Loop, Line, Wire}
use Rattle.strm_chain_end.specs.Pair.{QueuePair, list_on}
use Rattle.strm_chain_end.specs.End.{EndState}

-- a queue as flow control sees it
pub record Fill : Type 0 where
  pub marks : WaterMarks
  pub messages : List Msg

abbrev pub fill_of : Queue → Fill
fill_of q = record { marks = q.marks; messages = q.messages }

-- a queue of a side, where the module has marks for it
abbrev pub fill_with : Option WaterMarks → List Msg → Option Fill
fill_with None q = None
fill_with (Some marks) q = Some (record { marks = marks; messages = q })

abbrev pub fill_on : {K : Type 0} → Side → QueuePair K → Option Fill
fill_on side s = fill_with (marks_on s.shape side) (list_on s side)

abbrev pub or_else : Option Fill → Option Fill → Option Fill
or_else None q = q
or_else (Some p) q = Some p

-- the first queue of a side among these modules, else the queue after them
abbrev pub first_fill : {K : Type 0} → Side → List (QueuePair K) → Option Fill → Option Fill
first_fill side [] after = after
first_fill side (s ∷ rest) after = or_else (fill_on side s) (first_fill side rest after)

-- the queue after the read queues of an end: the head, unless it is closed
abbrev pub head_fill : {K : Type 0} → EndState K → Option Fill
head_fill e = if e.is_open then Some (record { marks = e.head_marks; messages = e.head }) else None

-- the queue after the write queues of an end: the driver, but a line consumes the messages that come
abbrev pub after_writes : Driver → Fill → Option Fill
after_writes Line q = None
after_writes Echo q = Some q
after_writes Loop q = Some q
after_writes Wire q = Some q

abbrev pub driver_fill : {K : Type 0} → Driver → EndState K → Option Fill
driver_fill d e = after_writes d (record { marks = e.drv_marks; messages = e.drv })

-- the first read queue above module i, and above all k of them where i is k + 1
abbrev pub above : {K : Type 0} → EndState K → ℕ → Option Fill
above e i = first_fill Rd (reverse (take (i - 1) e.modules)) (head_fill e)

-- the first write queue below module i, and below the head where i is 0
abbrev pub below : {K : Type 0} → Driver → EndState K → ℕ → Option Fill
below d e i = first_fill Wr (drop i e.modules) (driver_fill d e)

-- whether a queue ahead is full: where none is ahead, nothing is full and everything is slack
abbrev pub full_in : Option Fill → ℕ → Bool
full_in None b = false
full_in (Some q) b = is_full q.marks q.messages b

abbrev pub slack_in : Option Fill → ℕ → Bool
slack_in None b = true
slack_in (Some q) b = is_slack q.marks q.messages b
