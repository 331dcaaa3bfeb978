-- A terminal's line discipline as a kind of module (ldterm(7M), termio(7)): the actions of the kinds of this
-- crate on a message that is not queued, and what they send of their own.
use Rattle.std.specs.Prelude.{ℕ, ◌+◌, ◌*◌, ◌==◌, nat_le, Bool, true, false, Option, Some, None, List, [], ◌∷◌, ◌++◌, if◌then◌else◌, length, option_map, unwrap_or}
use Rattle.strm_msg.specs.declared.errno.Errno.TheVariants.{EINVAL}
use Rattle.strm_msg.specs.Message.{Msg, bare, data_msg}
use Rattle.strm_msg.specs.declared.kind.MsgKind.{MsgKind}
use Rattle.strm_msg.specs.declared.kind.MsgKind.TheVariants.{MData, MIoctl, MIocnak, MFlush, MHangup}
use Rattle.strm_msg.specs.declared.words.Side.{Side}
use Rattle.strm_msg.specs.declared.words.Side.TheVariants.{Rd, Wr}
use Rattle.strm_module.specs.Kinds.{OutList, Action, Acts, Meaning, kept, passed_on, replied, answered}
use Rattle.strm_module.specs.Builtin.{builtin}
use Rattle.strm_module.specs.declared.kind.Kind.{Kind}
use Rattle.strm_module.specs.declared.turn.Turn.{Turn}
use Rattle.strm_module.specs.declared.turn.Turn.TheVariants.{Serves, Shut, Sends}
use Rattle.port_termio.specs.declared.modes.Modes.{Modes}
use Rattle.port_termio.specs.declared.modes.TheConstants.{GET_MODES, SET_MODES}
use Rattle.port_termio.specs.Edit.{is_empty, sent_by, with_modes}
use Rattle.port_termio.specs.Modes.{modes_bytes, modes_in}
use Rattle.port_termio.specs.Typing.{Typed_on, typed_on, shown_text}
use Rattle.port_ldterm_module.specs.declared.ldterm.Ldterm.{Ldterm}
use Rattle.port_ldterm_module.specs.declared.ldterm.TheConstants.{MOST_ECHO}
use Rattle.port_ldterm_module.specs.declared.kinds.Discipline.{Discipline}
use Rattle.port_ldterm_module.specs.declared.kinds.Discipline.TheVariants.{Builtin, Terminal}

-- a terminal at which nothing was typed
abbrev pub fresh : Modes → Ldterm
fresh modes = record { editor = record { modes = modes; line = [] }; keys = []; up = []; echo = [] }

-- ---- what it keeps

-- keys that came wait to be typed, behind those that came before
abbrev pub keys_come : Ldterm → List ℕ → Ldterm
keys_come t keys = record t { keys = t.keys ++ keys }

-- a flush of the read side forgets the keys, and one of the write side what is still to be shown
abbrev pub read_flushed : Ldterm → Bool → Ldterm
read_flushed t true = record t { editor = record { modes = t.editor.modes; line = [] }; keys = []; up = [] }
read_flushed t false = t

abbrev pub write_flushed : Ldterm → Bool → Ldterm
write_flushed t true = record t { echo = [] }
write_flushed t false = t

abbrev pub flushed : Ldterm → Bool → Bool → Ldterm
flushed t r w = write_flushed (read_flushed t r) w

-- a flush of one band forgets something only if the band is 0
abbrev pub band_flushed : Ldterm → Bool → Bool → Option ℕ → Ldterm
band_flushed t r w None = flushed t r w
band_flushed t r w (Some band) = if band == 0 then flushed t r w else t

-- what is kept behind a message that passes; a hangup forgets all but the modes
abbrev pub passing : Ldterm → MsgKind → Ldterm
passing t (MFlush r w band) = band_flushed t r w band
passing t MHangup = flushed t true true
passing t kind = t

-- new modes; without ICANON the line that is being typed is to go up
abbrev pub modes_set : Ldterm → Modes → Ldterm
modes_set t modes =
    record t { editor = with_modes modes t.editor.line; up = t.up ++ unwrap_or (sent_by modes t.editor.line) [] }

-- keys were typed: what is left of them waits on, and what they show is owed
abbrev pub typed_by : Ldterm → Typed_on → Ldterm
typed_by t did = record t {
  editor = record { modes = t.editor.modes; line = did.line };
  keys = did.left;
  echo = t.echo ++ did.screen;
}

-- ---- what leaves

-- a line goes up as a message of its own
abbrev pub line_up : Option (List ℕ) → OutList
line_up None = []
line_up (Some line) = (Rd, data_msg 0 line) ∷ []

-- keys are typed up to the first that ends a line
abbrev pub typing : Ldterm → Action Discipline
typing t =
    let did = typed_on t.editor.modes t.editor.line t.keys in
    record { kind = Terminal (typed_by t did); outs = line_up did.up }

-- a text is shown as the modes say
abbrev pub shown : Ldterm → Msg → Action Discipline
shown t m = passed_on (Terminal t) Wr (record m { dat = option_map (shown_text t.editor.modes) m.dat })

-- data of band 0 is keys
abbrev pub keys_action : Ldterm → Msg → Action Discipline
keys_action t m =
    if m.band == 0 then kept (Terminal (keys_come t (unwrap_or m.dat []))) else passed_on (Terminal t) Rd m

abbrev pub set_or_refused : Ldterm → ℕ → Option Modes → Action Discipline
set_or_refused t id None = replied (Terminal t) (bare (MIocnak id EINVAL))
set_or_refused t id (Some modes) = answered (Terminal (modes_set t modes)) id 0 None

-- an ioctl is answered, if it is one of the terminal's
abbrev pub ioctl_action : Ldterm → Msg → ℕ → ℕ → Action Discipline
ioctl_action t m id cmd =
    if cmd == GET_MODES then answered (Terminal t) id 0 (Some (modes_bytes t.editor.modes))
    else if cmd == SET_MODES then set_or_refused t id (modes_in (unwrap_or m.dat []))
    else passed_on (Terminal t) Wr m

abbrev pub ldterm_action : Ldterm → Side → MsgKind → Msg → Action Discipline
ldterm_action t Rd MData m = keys_action t m
ldterm_action t Wr MData m = shown t m
ldterm_action t Wr (MIoctl id cmd) m = ioctl_action t m id cmd
ldterm_action t side kind m = passed_on (Terminal (passing t kind)) side m

-- ---- what it sends of its own

-- keys that wait are typed, unless too much is still to be shown
abbrev pub typing_turn : Ldterm → Turn
typing_turn t =
    if nat_le MOST_ECHO (length t.echo) then Shut else if is_empty t.keys then Serves else Sends (Some 0)

-- a line that new modes sent up goes first; what is to be shown goes before the messages that wait
abbrev pub ldterm_turn : Ldterm → Side → Turn
ldterm_turn t Rd = if is_empty t.up then typing_turn t else Sends (Some 0)
ldterm_turn t Wr = if is_empty t.echo then Serves else Sends (Some 0)

abbrev pub up_sent : Ldterm → Action Discipline
up_sent t = passed_on (Terminal (record t { up = [] })) Rd (data_msg 0 t.up)

abbrev pub echo_sent : Ldterm → Action Discipline
echo_sent t = passed_on (Terminal (record t { echo = [] })) Wr (data_msg 0 t.echo)

abbrev pub ldterm_own : Ldterm → Side → Action Discipline
ldterm_own t Rd = if is_empty t.up then typing t else up_sent t
ldterm_own t Wr = echo_sent t

-- keys that come up are answered by what they show
abbrev pub ldterm_answers : Side → Bool
ldterm_answers Rd = true
ldterm_answers Wr = false

-- ---- the meaning, with that of the built-in kinds

abbrev pub of_builtin : Action Kind → Action Discipline
of_builtin action = record { kind = Builtin action.kind; outs = action.outs }

abbrev pub discipline_acts : Acts Discipline
discipline_acts (Builtin kind) side m = of_builtin (builtin.acts kind side m)
discipline_acts (Terminal t) side m = ldterm_action t side m.kind m

abbrev pub discipline_turn : Discipline → Side → Turn
discipline_turn (Builtin kind) side = builtin.turn kind side
discipline_turn (Terminal t) side = ldterm_turn t side

abbrev pub discipline_own : Discipline → Side → Action Discipline
discipline_own (Builtin kind) side = of_builtin (builtin.own kind side)
discipline_own (Terminal t) side = ldterm_own t side

abbrev pub discipline_answers : Discipline → Side → Bool
discipline_answers (Builtin kind) side = builtin.answers kind side
discipline_answers (Terminal t) side = ldterm_answers side

abbrev pub discipline : Meaning Discipline
discipline = record {
  acts = discipline_acts;
  turn = discipline_turn;
  own = discipline_own;
  answers = discipline_answers;
  expire = λ kind ticks. kind;
}

-- ---- what it may still send

abbrev pub if_some : List ℕ → ℕ
if_some bytes = if is_empty bytes then 0 else 1

-- a bound on how often a side may still send of its own: each key may make a line and an echo, and new modes
-- may let the line go that is being typed
abbrev pub debt : Discipline → Side → ℕ
debt (Builtin kind) side = 0
debt (Terminal t) Rd = if_some t.up + if_some t.editor.line + 2 * length t.keys
debt (Terminal t) Wr = if_some t.echo + length t.keys
