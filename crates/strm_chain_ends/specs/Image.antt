-- The image of the ends of a stream, as a contract sees it (Programmer's Guide: STREAMS, "Overview of
-- STREAMS").
use Rattle.std.specs.Prelude.{ℕ, Bool, true, false, List, length, if◌then◌else◌}
use Rattle.strm_msg.specs.Message.{Msg}
use Rattle.strm_msg.specs.declared.words.End.{End}
use Rattle.strm_msg.specs.declared.words.End.TheVariants.{A, B}
use Rattle.strm_msg.specs.Marks.{WaterMarks}
use Rattle.strm_module.specs.declared.driver.Driver.{Driver}
use Rattle.strm_module.specs.Driver.{has_end}
use Rattle.strm_msg.specs.declared.kind.MsgKind.{MsgKind}
use Rattle.strm_msg.specs.declared.kind.MsgKind.TheVariants.{MFlush}
use Rattle.strm_chain_end.specs.Pair.{flushed}
use Rattle.strm_module.specs.declared.driver.Driver.TheVariants.{Wire}
use Rattle.strm_chain_end.specs.End.{EndState, KeepsRoom, in_head, in_state, in_drv}
use Rattle.strm_chain_end.specs.Change.{fresh_end}
use Rattle.strm_chain_end.specs.Driver.{DriverStep, consumes, driver_at}
use Rattle.strm_chain_end.specs.declared.record.Record.{Record}

-- a stream, but for the objects that act for its modules
pub record Image (K : Type 0) : Type 0 where
  pub driver : Driver
  pub broken : Bool
  pub a : EndState K
  pub b : EndState K

-- for each rank the number of messages that the heads' lists and the line's take without memory
pub record Rooms : Type 0 where
  pub a : List ℕ
  pub b : List ℕ
  pub line : List ℕ

-- the ends: their image and their rooms
pub record EndsValue (K : Type 0) : Type 0 where
  pub image : Image K
  pub rooms : Rooms

abbrev pub room_of : Rooms → End → List ℕ
room_of rooms A = rooms.a
room_of rooms B = rooms.b

abbrev pub other_end : End → End
other_end A = B
other_end B = A

-- no rank loses room in the list of a head
pub record KeepsHeadRoom (old new : Rooms) : Type 0 where
  pub on_a : KeepsRoom old.a new.a
  pub on_b : KeepsRoom old.b new.b

abbrev pub end_of : {K : Type 0} → Image K → End → EndState K
end_of image A = image.a
end_of image B = image.b

abbrev pub with_end : {K : Type 0} → Image K → End → EndState K → Image K
with_end image A e = record image { a = e }
with_end image B e = record image { b = e }

-- the driver, from above; at an end that it lacks everything is dropped
abbrev pub put_at_driver : {K : Type 0} → Driver → End → EndState K → Msg → DriverStep K
put_at_driver d e state m = if has_end d e then driver_at d state m else consumes state

-- the value for the end whose list holds messages that came in from a line
abbrev pub at_input : {X : Type 0} → Driver → X → X → X
at_input Wire a b = b
at_input d a b = a

-- the end of a wire whose list holds messages that came in, after a flush of read queues that its driver
-- sends back up: such a flush passes the list
abbrev pub input_flushed : {K : Type 0} → Driver → EndState K → MsgKind → EndState K
input_flushed Wire far (MFlush true w band) = in_drv far (flushed band far.drv)
input_flushed d far kind = far

-- the number of modules of an end
abbrev pub count_of : {K : Type 0} → Image K → End → ℕ
count_of image e = length (end_of image e).modules

abbrev pub with_head : {K : Type 0} → Image K → End → List Msg → Image K
with_head image e q = with_end image e (in_head (end_of image e) q)

abbrev pub with_drv : {K : Type 0} → Image K → End → List Msg → Image K
with_drv image e q = with_end image e (in_drv (end_of image e) q)

-- the ends when a message has come to the driver: the list of that end has changed, and of a wire that of the
-- messages that came in
abbrev pub driven : {K : Type 0} → Image K → End → Msg → Image K
driven image A m = record image { a = (put_at_driver image.driver A image.a m).state; b = input_flushed image.driver image.b m.kind }
driven image B m = record image { b = (put_at_driver image.driver B image.b m).state }

abbrev pub with_state : {K : Type 0} → Image K → End → Record → Image K
with_state image e r = with_end image e (in_state (end_of image e) r)

-- a new stream: each end that the driver has is open
abbrev pub fresh : {K : Type 0} → Driver → WaterMarks → WaterMarks → Image K
fresh d head drv =
    record { driver = d; broken = false; a = fresh_end (has_end d A) head drv; b = fresh_end (has_end d B) head drv }
