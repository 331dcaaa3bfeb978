-- Two modules of this crate and any link between them. The link may lose, double, delay and reorder the data
-- messages that they send down.
use Rattle.std.specs.Prelude.{ℕ, ◌&&◌, not, Bool, true, false, Option, Some, None, List, [], ◌∷◌, ◌++◌, if◌then◌else◌, unwrap_or}
use Rattle.std.specs.List.{flat_map, slice_get}
use Rattle.strm_msg.specs.Message.{Msg, data_msg}
use Rattle.strm_msg.specs.declared.kind.MsgKind.{MsgKind}
use Rattle.strm_msg.specs.declared.kind.MsgKind.TheVariants.{MData}
use Rattle.strm_msg.specs.declared.words.Side.{Side}
use Rattle.strm_msg.specs.declared.words.Side.TheVariants.{Rd, Wr}
use Rattle.strm_module.specs.Kinds.{OutList, Action, is_up}
use Rattle.strm_module.specs.declared.turn.Turn.{Turn}
use Rattle.strm_module.specs.declared.turn.Turn.TheVariants.{Serves, Shut, Sends}
use Rattle.port_arq.specs.Peer.{fresh}
use Rattle.port_arq_module.specs.Arq.{arq}
use Rattle.port_arq_module.specs.declared.kinds.ArqKind.{ArqKind}
use Rattle.port_arq_module.specs.declared.kinds.ArqKind.TheVariants.{Arq}

abbrev pub is_data : MsgKind → Bool
is_data MData = true
is_data kind = false

-- the data of the messages that leave upward, and of those that leave downward
abbrev pub data_if : Bool → Msg → List (List ℕ)
data_if leaves m = if leaves && is_data m.kind then unwrap_or m.dat [] ∷ [] else []

abbrev pub raised_by : OutList → List (List ℕ)
raised_by outs = flat_map (λ out. data_if (is_up out.0) out.1) outs

abbrev pub lowered_by : OutList → List (List ℕ)
lowered_by outs = flat_map (λ out. data_if (not (is_up out.0)) out.1) outs

-- a module, and the data that has passed it
pub record Station : Type 0 where
  pub kind : ArqKind
  -- all data that its write side took from above, in order
  pub handed : List (List ℕ)
  -- all data that it sent down, in order
  pub lowered : List (List ℕ)
  -- all data that it sent up, in order
  pub raised : List (List ℕ)

-- a new module of this window and interval
abbrev pub placed : ℕ → ℕ → Station
placed window interval =
    record { kind = Arq (fresh window interval); handed = []; lowered = []; raised = [] }

-- what may happen at a module
pub data Act : Type 0 where
  -- data of a band has come from above, and the write side may have its turn
  Serve : ℕ → List ℕ → Act
  -- the write side may send of its own
  Own : Act
  -- the data with this index comes up, of all that the other module sent down
  Come : ℕ → Act
  -- another message than data comes on a side, as a flush or a hangup
  Pass : Side → Msg → Act
  -- so many ticks pass
  Expire : ℕ → Act

abbrev pub noted : Station → Action ArqKind → Station
noted station action = record station {
  kind = action.kind;
  lowered = station.lowered ++ lowered_by action.outs;
  raised = station.raised ++ raised_by action.outs;
}

-- what waits is taken where it is the write side's turn to serve it, and waits on where it is not
abbrev pub served_at : Station → ℕ → List ℕ → Turn → Station
served_at station band bytes Serves = record (noted station (arq.acts station.kind Wr (data_msg band bytes))) {
  handed = station.handed ++ bytes ∷ [];
}
served_at station band bytes Shut = station
served_at station band bytes (Sends room) = station

abbrev pub sent_at : Station → Turn → Station
sent_at station Serves = station
sent_at station Shut = station
sent_at station (Sends room) = noted station (arq.own station.kind Wr)

abbrev pub come_up : Station → Option (List ℕ) → Station
come_up station None = station
come_up station (Some bytes) = noted station (arq.acts station.kind Rd (data_msg 0 bytes))

abbrev pub passed_by : Station → Side → Msg → Bool → Station
passed_by station side m true = station
passed_by station side m false = noted station (arq.acts station.kind side m)

-- a module after something happened, where the other module has sent this data down
abbrev pub acted : Station → List (List ℕ) → Act → Station
acted station lowered (Serve band bytes) = served_at station band bytes (arq.turn station.kind Wr)
acted station lowered Own = sent_at station (arq.turn station.kind Wr)
acted station lowered (Come index) = come_up station (slice_get lowered index)
acted station lowered (Pass side m) = passed_by station side m (is_data m.kind)
acted station lowered (Expire ticks) = record station { kind = arq.expire station.kind ticks }

pub record Stations : Type 0 where
  pub near : Station
  pub far : Station

-- what may happen: something at either module
pub data Event : Type 0 where
  AtNear : Act → Event
  AtFar : Act → Event

abbrev pub after : Stations → Event → Stations
after all (AtNear act) = record all { near = acted all.near all.far.lowered act }
after all (AtFar act) = record all { far = acted all.far all.near.lowered act }

abbrev pub after_all : Stations → List Event → Stations
after_all all [] = all
after_all all (event ∷ events) = after_all (after all event) events

-- two modules after some events
abbrev pub reached : Station → Station → List Event → Stations
reached near far events = after_all (record { near = near; far = far }) events
