-- Two modules do as two ends of a link do.
use Rattle.std.proofs.Common.{◌≡◌, ℕ, ◌<◌, ◌≤◌, Option, Some, None, List, [], ◌∷◌, map, refl, ap, sym, subst, ◌∙◌, length, arith, true}
use Rattle.std.specs.List.{slice_get}
use Rattle.std.proofs.lemmas.Option.{slice_get_within}
use Rattle.strm_msg.specs.declared.words.Side.TheVariants.{Wr}
use Rattle.strm_module.specs.declared.turn.Turn.{Turn}
use Rattle.strm_module.specs.declared.turn.Turn.TheVariants.{Serves, Shut, Sends}
use Rattle.port_arq.specs.Frame.{frame_bytes}
use Rattle.port_arq.specs.FrameLaws.{NumbersFit}
use Rattle.port_arq.specs.Link as link
use Rattle.port_arq.specs.Link.{Side, HandDown, Send, Hear, Tick, Link, opened}
use Rattle.port_arq.specs.Peer.{PeerValue, is_acknowledged}
use Rattle.port_arq.specs.declared.frame.Frame.{Frame}
use Rattle.port_arq.specs.declared.frame.Numbered.{Numbered}
use Rattle.port_arq.specs.declared.peer.TheConstants.{MOST_MESSAGES}
use Rattle.port_arq.proofs.LinkLemmas.{IsOf, Between, BothWays, opened-holds, event-holds, carries}
use Rattle.port_arq_module.specs.Arq.{arq}
use Rattle.port_arq_module.specs.Between.{Station, Act, Serve, Own, Come, Pass, Expire, served_at, sent_at, acted, Stations, Event, AtNear, AtFar, after, after_all, placed}
use Rattle.port_arq_module.specs.BetweenLaws.{station_of, FramesFit, Carries, AreCarried, ModulesCarryData}
use Rattle.port_arq_module.specs.declared.kinds.ArqKind.{ArqKind}
use Rattle.port_arq_module.specs.declared.kinds.ArqKind.TheVariants.{Builtin, Arq}
use Rattle.port_arq_module.proofs.EndLemmas.{module_does_as_its_end}

-- ---- the numbers of frames that were sent have 32 bits

numbers_fit : (handed : List (List ℕ)) (message : Option Numbered) (awaited : ℕ) → length handed ≤ MOST_MESSAGES → awaited ≤ MOST_MESSAGES → IsOf handed message → NumbersFit message awaited
numbers_fit handed None awaited many known of = omega arith
numbers_fit handed (Some message) awaited many known of =
    let within = slice_get_within handed message.number message.bytes of in (omega arith, omega arith)

frames_fit : (from to : Side) → Between from to → Between to from → FramesFit to.frames
frames_fit from to there back i frame e =
    let covers = there.covers i frame e in
    let most = there.most in
    let numbers = there.numbers in
    numbers_fit to.handed frame.message frame.awaited back.numbers (omega arith) (back.carried i frame e)

-- ---- one act

abbrev maybe : Side → List Frame → Option link.Act → Side
maybe side frames None = side
maybe side frames (Some act) = link.acted side frames act

-- what an act of a module is at its end, if it is anything there
record Done (side : Side) (frames : List Frame) (act : Act) : Type 0 where
  act_there : Option link.Act
  same : acted (station_of side) (map frame_bytes frames) act ≡ station_of (maybe side frames act_there)

serve_done : (side : Side) (frames : List Frame) (band : ℕ) (bytes : List ℕ) (turn : Turn) → arq.turn (Arq side.peer) Wr ≡ turn → Done side frames (Serve band bytes)
serve_done side frames band bytes Serves at = record {
  act_there = Some (HandDown bytes);
  same = module_does_as_its_end.hands_down side frames band bytes at;
}
serve_done side frames band bytes Shut at = record {
  act_there = None;
  same = ap (served_at (station_of side) band bytes) at;
}
serve_done side frames band bytes (Sends room) at = record {
  act_there = None;
  same = ap (served_at (station_of side) band bytes) at;
}

own_done : (side : Side) (frames : List Frame) (turn : Turn) → arq.turn (Arq side.peer) Wr ≡ turn → Done side frames Own
own_done side frames Serves at = record { act_there = None; same = ap (sent_at (station_of side)) at }
own_done side frames Shut at = record { act_there = None; same = ap (sent_at (station_of side)) at }
own_done side frames (Sends room) at = record {
  act_there = Some Send;
  same = module_does_as_its_end.sends side frames room at;
}

act_done : (side : Side) (frames : List Frame) → FramesFit frames → (act : Act) → Done side frames act
act_done side frames fit (Serve band bytes) = serve_done side frames band bytes (arq.turn (Arq side.peer) Wr) refl
act_done side frames fit Own = own_done side frames (arq.turn (Arq side.peer) Wr) refl
act_done side frames fit (Come index) = record {
  act_there = Some (Hear index);
  same = module_does_as_its_end.hears side frames index fit;
}
act_done side frames fit (Pass way m) = record {
  act_there = None;
  same = module_does_as_its_end.passes side frames way m;
}
act_done side frames fit (Expire ticks) = record {
  act_there = Some (Tick ticks);
  same = module_does_as_its_end.ticks side frames ticks;
}

-- ---- any events

abbrev stations_of : Link → Stations
stations_of both = record { near = station_of both.near; far = station_of both.far }

-- two modules are those of two ends at which all is as the law of the link wants it
record Stand (all : Stations) : Type 0 where
  both : Link
  holds : BothWays both
  same : all ≡ stations_of both

near_holds : (both : Link) (act : Option link.Act) → BothWays both → BothWays (record both { near = maybe both.near both.far.frames act })
near_holds both None x = record { there = x.there; back = x.back }
near_holds both (Some act) x = event-holds both (link.AtNear act) x

far_holds : (both : Link) (act : Option link.Act) → BothWays both → BothWays (record both { far = maybe both.far both.near.frames act })
far_holds both None x = record { there = x.there; back = x.back }
far_holds both (Some act) x = event-holds both (link.AtFar act) x

event_stands : (both : Link) (event : Event) → BothWays both → Stand (after (stations_of both) event)
event_stands both (AtNear act) x =
    let done = act_done both.near both.far.frames (frames_fit both.near both.far x.there x.back) act in
    record {
      both = record both { near = maybe both.near both.far.frames done.act_there };
      holds = near_holds both done.act_there x;
      same = ap (λ s. record (stations_of both) { near = s }) done.same;
    }
event_stands both (AtFar act) x =
    let done = act_done both.far both.near.frames (frames_fit both.far both.near x.back x.there) act in
    record {
      both = record both { far = maybe both.far both.near.frames done.act_there };
      holds = far_holds both done.act_there x;
      same = ap (λ s. record (stations_of both) { far = s }) done.same;
    }

events_stand : (both : Link) (events : List Event) → BothWays both → Stand (after_all (stations_of both) events)
events_stand both [] x = record { both = both; holds = x; same = refl }
events_stand both (event ∷ events) x =
    let one = event_stands both event x in
    let all = events_stand one.both events one.holds in
    record {
      both = all.both;
      holds = all.holds;
      same = ap (λ s. after_all s events) one.same ∙ all.same;
    }

-- ---- the law

abbrev peer_or : PeerValue → ArqKind → PeerValue
peer_or other (Builtin kind) = other
peer_or other (Arq peer) = peer

station_carries : (from to : Side) → Between from to → Carries (station_of from) (station_of to)
station_carries from to x = record {
  order = (carries from to x).order;
  whole = λ peer is acknowledged.
      (carries from to x).whole (ap (λ k. is_acknowledged (peer_or from.peer k)) is ∙ acknowledged);
}

pub modules_carry_data : ModulesCarryData
modules_carry_data near_window near_interval far_window far_interval events =
    let start : Link = record { near = opened near_window near_interval; far = opened far_window far_interval } in
    let stand = events_stand start events (record { there = opened-holds; back = opened-holds }) in
    subst (λ (all : Stations). AreCarried all.near all.far) (sym stand.same)
    (record {
      there = station_carries stand.both.near stand.both.far stand.holds.there;
      back = station_carries stand.both.far stand.both.near stand.holds.back;
    })
