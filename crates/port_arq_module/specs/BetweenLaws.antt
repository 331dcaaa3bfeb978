-- The purpose of a module that is an end of an acknowledged link.
use Rattle.std.specs.Prelude.{◌≡◌, ℕ, ◌+◌, ◌-◌, true, Option, Some, List, map, length, if◌then◌else◌}
use Rattle.std.specs.List.{slice_get}
use Rattle.strm_msg.specs.Message.{Msg}
use Rattle.strm_msg.specs.declared.words.Side.{Side as Way}
use Rattle.strm_msg.specs.declared.words.Side.TheVariants.{Rd, Wr}
use Rattle.strm_module.specs.declared.turn.Turn.TheVariants.{Serves, Sends}
use Rattle.port_arq.specs.Frame.{frame_bytes}
use Rattle.port_arq.specs.FrameLaws.{NumbersFit}
use Rattle.port_arq.specs.Link.{Side, HandDown, Send, Hear, Tick, acted as link_acted}
use Rattle.port_arq.specs.LinkLaws.{IsBeginning}
use Rattle.port_arq.specs.Peer.{PeerValue, is_acknowledged}
use Rattle.port_arq.specs.declared.frame.Frame.{Frame}
use Rattle.port_arq_module.specs.Arq.{arq}
use Rattle.port_arq_module.specs.Between.{Station, Act, Serve, Own, Come, Pass, Expire, acted, Event, placed, reached}
use Rattle.port_arq_module.specs.declared.kinds.ArqKind.{ArqKind}
use Rattle.port_arq_module.specs.declared.kinds.ArqKind.TheVariants.{Builtin, Arq}

-- the module of an end of a link: what the end was handed, its frames as bytes, and what went up there
abbrev pub station_of : Side → Station
station_of side = record {
  kind = Arq side.peer;
  handed = side.handed;
  lowered = map frame_bytes side.frames;
  raised = side.raised;
}

-- all numbers of the frames are numbers of 32 bits
abbrev pub FramesFit : List Frame → Type 0
FramesFit frames =
    (i : ℕ) (frame : Frame) → slice_get frames i ≡ Some frame → NumbersFit frame.message frame.awaited

-- each act of a module is the act of its end of the link, and what leaves is what the end sends and lets go
-- up; a message that is no data is none of these acts, so a flush and a hangup leave the end as it is
pub record ModuleDoesAsItsEnd : Type 0 where
  pub hands_down : (side : Side) (frames : List Frame) (band : ℕ) (bytes : List ℕ) → arq.turn (Arq side.peer) Wr ≡ Serves → acted (station_of side) (map frame_bytes frames) (Serve band bytes) ≡ station_of (link_acted side frames (HandDown bytes))
  pub sends : (side : Side) (frames : List Frame) (room : Option ℕ) → arq.turn (Arq side.peer) Wr ≡ Sends room → acted (station_of side) (map frame_bytes frames) Own ≡ station_of (link_acted side frames Send)
  pub hears : (side : Side) (frames : List Frame) (index : ℕ) → FramesFit frames → acted (station_of side) (map frame_bytes frames) (Come index) ≡ station_of (link_acted side frames (Hear index))
  pub ticks : (side : Side) (frames : List Frame) (ticks : ℕ) → acted (station_of side) (map frame_bytes frames) (Expire ticks) ≡ station_of (link_acted side frames (Tick ticks))
  pub passes : (side : Side) (frames : List Frame) (way : Way) (m : Msg) → acted (station_of side) (map frame_bytes frames) (Pass way m) ≡ station_of side

-- what went up at one module of what the other took from above: a beginning of it, in order, once each; and
-- all of it, once all is acknowledged
pub record Carries (from to : Station) : Type 0 where
  pub order : IsBeginning to.raised from.handed
  pub whole : (peer : PeerValue) → from.kind ≡ Arq peer → is_acknowledged peer ≡ true → to.raised ≡ from.handed

-- two modules carry data both ways
pub record AreCarried (near far : Station) : Type 0 where
  pub there : Carries near far
  pub back : Carries far near

-- whatever the windows and intervals of the two modules, whatever comes from above, is sent, lost, doubled,
-- delayed and reordered, whatever else passes, and however time passes
abbrev pub ModulesCarryData : Type 0
ModulesCarryData =
    (near_window near_interval far_window far_interval : ℕ) (events : List Event) →
    let all = reached (placed near_window near_interval) (placed far_window far_interval) events in
    AreCarried all.near all.far

-- how many frames a side may still send of its own: those with a message that was not sent since the timer
-- ran out, and an acknowledgement that is owed
abbrev pub frames_owed : PeerValue → ℕ
frames_owed peer = (length peer.waiting - peer.sent) + (if peer.owes then 1 else 0)

abbrev pub debt : ArqKind → Way → ℕ
debt (Builtin kind) way = 0
debt (Arq peer) Rd = 0
debt (Arq peer) Wr = frames_owed peer
