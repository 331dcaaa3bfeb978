-- The actions of the kinds of this crate on a message that is not queued.
use Rattle.std.specs.Prelude.{ℕ, Bool, true, false, Some, List, [], ◌++◌, if◌then◌else◌, map, option_map, unwrap_or}
use Rattle.strm_msg.specs.Message.{Msg, data_msg}
use Rattle.strm_msg.specs.declared.kind.MsgKind.{MsgKind}
use Rattle.strm_msg.specs.declared.kind.MsgKind.TheVariants.{MData, MFlush, MHangup}
use Rattle.strm_msg.specs.declared.words.Side.{Side}
use Rattle.strm_msg.specs.declared.words.Side.TheVariants.{Rd, Wr}
use Rattle.strm_module.specs.Kinds.{OutList, Action, Acts, Meaning, kept, passed_on}
use Rattle.strm_module.specs.Builtin.{builtin}
use Rattle.strm_module.specs.declared.kind.Kind.{Kind}
use Rattle.strm_module.specs.declared.turn.Turn.{Turn}
use Rattle.strm_module.specs.declared.turn.Turn.TheVariants.{Serves, Sends}
use Rattle.port_slip.specs.Frame.{framed, received, holds_frame}
use Rattle.port_slip.specs.declared.kinds.SlipKind.{SlipKind}
use Rattle.port_slip.specs.declared.kinds.SlipKind.TheVariants.{Builtin, Slip}

-- the action of a built-in kind, which is the same as elsewhere
abbrev pub of_builtin : Action Kind → Action SlipKind
of_builtin action = record { kind = Builtin action.kind; outs = action.outs }

-- each datagram goes up as a message of data
abbrev pub datagrams_up : ℕ → List (List ℕ) → OutList
datagrams_up band datagrams = map (λ datagram. (Rd, data_msg band datagram)) datagrams

-- at most two datagrams go up, in the band of the data that came last, and the rest is kept
abbrev pub received_action : ℕ → List ℕ → Action SlipKind
received_action band bytes =
    let all = received 2 bytes in
    record { kind = Slip all.kept band; outs = datagrams_up band all.datagrams }

-- so it is of the data of a message, behind the bytes that are kept
abbrev pub received_behind : List ℕ → Msg → Action SlipKind
received_behind bytes m = received_action m.band (bytes ++ unwrap_or m.dat [])

-- the bytes that are kept behind a message that passes: a flush of the read side and a hangup drop them, in
-- either direction
abbrev pub kept_after : List ℕ → MsgKind → List ℕ
kept_after bytes (MFlush true w band) = []
kept_after bytes MHangup = []
kept_after bytes kind = bytes

-- data on its way down becomes a frame; data on its way up is put behind the bytes that are kept
abbrev pub slip_action : List ℕ → ℕ → Side → MsgKind → Msg → Action SlipKind
slip_action bytes band Wr MData m = passed_on (Slip bytes band) Wr (record m { dat = option_map framed m.dat })
slip_action bytes band Rd MData m = received_behind bytes m
slip_action bytes band side kind m = passed_on (Slip (kept_after bytes kind) band) side m

abbrev pub slip_acts : Acts SlipKind
slip_acts (Builtin kind) side m = of_builtin (builtin.acts kind side m)
slip_acts (Slip bytes band) side m = slip_action bytes band side m.kind m

-- while a whole frame is kept, the service of the read side sends before it takes the messages that wait
abbrev pub slip_turn : SlipKind → Side → Turn
slip_turn (Builtin kind) side = builtin.turn kind side
slip_turn (Slip bytes band) Rd = if holds_frame bytes then Sends (Some band) else Serves
slip_turn (Slip bytes band) Wr = Serves

-- the service of the read side sends at most two more datagrams
abbrev pub slip_own : SlipKind → Side → Action SlipKind
slip_own (Builtin kind) side = of_builtin (builtin.own kind side)
slip_own (Slip bytes band) Rd = received_action band bytes
slip_own (Slip bytes band) Wr = kept (Slip bytes band)

-- SLIP answers nothing
abbrev pub slip_answers : SlipKind → Side → Bool
slip_answers (Builtin kind) side = builtin.answers kind side
slip_answers (Slip bytes band) side = false

abbrev pub slip : Meaning SlipKind
slip =
    record { acts = slip_acts; turn = slip_turn; own = slip_own; answers = slip_answers; expire = λ kind ticks. kind }
