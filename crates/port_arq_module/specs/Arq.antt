-- The actions of the kinds of this crate on a message that is not queued.
use Rattle.std.specs.Prelude.{ℕ, Bool, true, false, Option, Some, None, List, [], ◌∷◌, if◌then◌else◌, is_some, unwrap_or}
use Rattle.strm_msg.specs.Message.{Msg, data_msg}
use Rattle.strm_msg.specs.declared.kind.MsgKind.{MsgKind}
use Rattle.strm_msg.specs.declared.kind.MsgKind.TheVariants.{MData}
use Rattle.strm_msg.specs.declared.words.Side.{Side}
use Rattle.strm_msg.specs.declared.words.Side.TheVariants.{Rd, Wr}
use Rattle.strm_module.specs.Kinds.{OutList, Action, Acts, Meaning, kept, passed_on}
use Rattle.strm_module.specs.Builtin.{builtin}
use Rattle.strm_module.specs.declared.kind.Kind.{Kind}
use Rattle.strm_module.specs.declared.turn.Turn.{Turn}
use Rattle.strm_module.specs.declared.turn.Turn.TheVariants.{Serves, Shut, Sends}
use Rattle.port_arq.specs.Frame.{frame_bytes, frame_in}
use Rattle.port_arq.specs.Peer.{PeerValue, refusal, handed_down, next_frame, after_sending, heard_up, after_hearing, timed}
use Rattle.port_arq.specs.declared.frame.Frame.{Frame}
use Rattle.port_arq.specs.declared.refusal.Refusal.{Refusal}
use Rattle.port_arq_module.specs.declared.kinds.ArqKind.{ArqKind}
use Rattle.port_arq_module.specs.declared.kinds.ArqKind.TheVariants.{Builtin, Arq}

-- the action of a built-in kind, which is the same as elsewhere
abbrev pub of_builtin : Action Kind → Action ArqKind
of_builtin action = record { kind = Builtin action.kind; outs = action.outs }

-- data on its way down is handed to the end of the link, which drops it where it refuses it
abbrev pub unless_refused : PeerValue → List ℕ → Option Refusal → PeerValue
unless_refused peer bytes None = handed_down peer bytes
unless_refused peer bytes (Some why) = peer

abbrev pub down_action : PeerValue → List ℕ → Action ArqKind
down_action peer bytes = kept (Arq (unless_refused peer bytes (refusal peer)))

-- what the end of the link lets go up, as data of band 0
abbrev pub raised_up : Option (List ℕ) → OutList
raised_up None = []
raised_up (Some bytes) = (Rd, data_msg 0 bytes) ∷ []

-- data on its way up is heard as a frame; what is no frame is dropped
abbrev pub up_action : PeerValue → Option Frame → Action ArqKind
up_action peer None = kept (Arq peer)
up_action peer (Some frame) =
    record { kind = Arq (after_hearing peer frame); outs = raised_up (heard_up peer frame) }

-- all other messages go on, and change nothing
abbrev pub arq_action : PeerValue → Side → MsgKind → Msg → Action ArqKind
arq_action peer Wr MData m = down_action peer (unwrap_or m.dat [])
arq_action peer Rd MData m = up_action peer (frame_in (unwrap_or m.dat []))
arq_action peer side kind m = passed_on (Arq peer) side m

abbrev pub arq_acts : Acts ArqKind
arq_acts (Builtin kind) side m = of_builtin (builtin.acts kind side m)
arq_acts (Arq peer) side m = arq_action peer side m.kind m

-- a frame that is owed goes first; then data is taken as long as the end of the link refuses none
abbrev pub write_turn : PeerValue → Turn
write_turn peer =
    if is_some (next_frame peer) then Sends (Some 0) else if is_some (refusal peer) then Shut else Serves

abbrev pub arq_turn : ArqKind → Side → Turn
arq_turn (Builtin kind) side = builtin.turn kind side
arq_turn (Arq peer) Wr = write_turn peer
arq_turn (Arq peer) Rd = Serves

-- a frame goes down as data of band 0
abbrev pub frame_down : Option Frame → OutList
frame_down None = []
frame_down (Some frame) = (Wr, data_msg 0 (frame_bytes frame)) ∷ []

abbrev pub arq_own : ArqKind → Side → Action ArqKind
arq_own (Builtin kind) side = of_builtin (builtin.own kind side)
arq_own (Arq peer) Wr = record { kind = Arq (after_sending peer); outs = frame_down (next_frame peer) }
arq_own (Arq peer) Rd = kept (Arq peer)

-- what comes up is acknowledged on the way down
abbrev pub arq_answers : ArqKind → Side → Bool
arq_answers (Builtin kind) side = builtin.answers kind side
arq_answers (Arq peer) Rd = true
arq_answers (Arq peer) Wr = false

abbrev pub arq_expire : ArqKind → ℕ → ArqKind
arq_expire (Builtin kind) ticks = Builtin (builtin.expire kind ticks)
arq_expire (Arq peer) ticks = Arq (timed peer ticks)

abbrev pub arq : Meaning ArqKind
arq =
    record { acts = arq_acts; turn = arq_turn; own = arq_own; answers = arq_answers; expire = arq_expire }
