-- The effect of a message that comes down on a driver (Programmer's Guide: STREAMS, "Drivers" and
-- "Loop-Around Driver").
use Rattle.std.specs.Prelude.{ℕ, ◌==◌, Bool, true, false, Option, Some, if◌then◌else◌}
use Rattle.strm_msg.specs.Message.{Msg, bare}
use Rattle.strm_msg.specs.Options.{options_asked}
use Rattle.strm_msg.specs.declared.options.TheConstants.{SETOPTS}
use Rattle.strm_msg.specs.declared.kind.MsgKind.{MsgKind}
use Rattle.strm_msg.specs.declared.kind.MsgKind.TheVariants.{MData, MProto, MPcproto, MIoctl, MSetopts, MIocnak, MFlush}
use Rattle.strm_msg.specs.declared.errno.Errno.TheVariants.{EINVAL}
use Rattle.strm_queue.specs.Queue.{put_in}
use Rattle.strm_module.specs.declared.driver.Driver.{Driver}
use Rattle.strm_module.specs.declared.driver.Driver.TheVariants.{Echo, Loop, Line, Wire}
use Rattle.strm_chain_end.specs.Pair.{flushed_if}
use Rattle.strm_chain_end.specs.End.{EndState, in_drv}
use Rattle.strm_chain_end.specs.declared.driver.DriverSends.{DriverSends}
use Rattle.strm_chain_end.specs.declared.driver.DriverSends.TheVariants.{Nothing, Reply, Across, Options}

-- an end afterwards, and the messages that its driver sends up
pub record DriverStep (K : Type 0) : Type 0 where
  pub state : EndState K
  pub sends : DriverSends

abbrev pub consumes : {K : Type 0} → EndState K → DriverStep K
consumes e = record { state = e; sends = Nothing }

-- a flush of read queues that came down is sent back up with FLUSHW cleared (qreply(9F))
abbrev pub flush_up : Bool → Option ℕ → DriverSends
flush_up r band = if r then Reply (bare (MFlush true false band)) else Nothing

-- an ioctl that no module has answered
abbrev pub refuses : {K : Type 0} → EndState K → ℕ → DriverStep K
refuses e id = record { state = e; sends = Reply (bare (MIocnak id EINVAL)) }

-- a line's list holds messages that came in, so it is flushed as a read queue. Messages that are written to
-- it are consumed
abbrev pub put_at_line : {K : Type 0} → EndState K → MsgKind → DriverStep K
put_at_line e (MFlush r w band) = record { state = in_drv e (flushed_if r band e.drv); sends = flush_up r band }
put_at_line e (MIoctl id cmd) = refuses e id
put_at_line e kind = consumes e

-- the list of an echo or a loop holds messages that came down, so it is flushed as a write queue. A high
-- protocol message goes on at once
abbrev pub put_at_loop : {K : Type 0} → EndState K → MsgKind → Msg → DriverStep K
put_at_loop e (MFlush r w band) m = record { state = in_drv e (flushed_if w band e.drv); sends = flush_up r band }
put_at_loop e (MIoctl id cmd) m = refuses e id
put_at_loop e MData m = consumes (in_drv e (put_in e.drv m))
put_at_loop e MProto m = consumes (in_drv e (put_in e.drv m))
put_at_loop e MPcproto m = record { state = e; sends = Across m }
put_at_loop e kind m = consumes e

-- options that an ioctl asks for are sent up before its ack; a request that is none is refused
abbrev pub options_up : ℕ → Option MsgKind → DriverSends
options_up id (Some (MSetopts mode prot marks)) = Options mode prot marks id
options_up id asked = Reply (bare (MIocnak id EINVAL))

-- an echo is a loop with one end, that has an ioctl of its own
abbrev pub put_at_echo : {K : Type 0} → EndState K → MsgKind → Msg → DriverStep K
put_at_echo e (MIoctl id cmd) m = if cmd == SETOPTS then record { state = e; sends = options_up id (options_asked m.dat) } else refuses e id
put_at_echo e kind m = put_at_loop e kind m

-- a wire's list holds messages that came down until they are taken from outside, so a high protocol message
-- waits there too, before all others. Else it is a loop's
abbrev pub put_at_wire : {K : Type 0} → EndState K → MsgKind → Msg → DriverStep K
put_at_wire e MPcproto m = consumes (in_drv e (put_in e.drv m))
put_at_wire e kind m = put_at_loop e kind m

abbrev pub driver_at : {K : Type 0} → Driver → EndState K → Msg → DriverStep K
driver_at Line e m = put_at_line e m.kind
driver_at Echo e m = put_at_echo e m.kind m
driver_at Loop e m = put_at_loop e m.kind m
driver_at Wire e m = put_at_wire e m.kind m
