-- A line discipline as the owner of a module: what it asks for next, and what it makes of the answer
-- (ldterm(7M), termio(7)).
use Rattle.std.specs.Prelude.{◌≡◌, ◌⊎◌, ℕ, ◌==◌, ◌&&◌, ◌||◌, Bool, true, false, Option, Some, None, is_none, List, [], if◌then◌else◌, option_map, unwrap_or}
use Rattle.strm_msg.specs.declared.errno.Errno.TheVariants.{EINVAL}
use Rattle.strm_msg.specs.declared.words.Side.{Side}
use Rattle.strm_msg.specs.declared.words.Side.TheVariants.{Rd, Wr}
use Rattle.strm_msg.specs.declared.kind.MsgKind.{MsgKind}
use Rattle.strm_msg.specs.declared.kind.MsgKind.TheVariants.{MData, MIoctl, MIocnak, MFlush}
use Rattle.strm_msg.specs.Kind.{is_high}
use Rattle.strm_msg.specs.Message.{Msg, bare, data_msg, ack_msg}
use Rattle.strm_head_calls.specs.declared.answer.Reply.{Reply}
use Rattle.strm_head_calls.specs.declared.answer.Reply.TheVariants.{Message}
use Rattle.strm_head_calls.specs.declared.request.Wanted.{Wanted}
use Rattle.strm_head_calls.specs.declared.request.Wanted.TheVariants.{Any, Hipri}
use Rattle.strm_head_calls.specs.declared.service.ServiceCall.{ServiceCall}
use Rattle.strm_head_calls.specs.declared.service.ServiceCall.TheVariants.{Getq, Putbq, Putnext}
use Rattle.strm_owner.specs.declared.owner.Told.{Told}
use Rattle.strm_owner.specs.declared.owner.Told.TheVariants.{Done, Refused, Broke}
use Rattle.port_termio.specs.declared.modes.Modes.{Modes}
use Rattle.port_termio.specs.declared.modes.TheConstants.{GET_MODES, SET_MODES}
use Rattle.port_ldterm.specs.declared.terminal.Asked.{Asked}
use Rattle.port_ldterm.specs.declared.terminal.Asked.TheVariants.{Nothing, Urgent, Back, Up, Down, Take}
use Rattle.port_ldterm.specs.declared.terminal.Waits.{Waits}
use Rattle.port_termio.specs.Edit.{Editing, is_empty, sent_by, with_modes}
use Rattle.port_termio.specs.Modes.{modes_bytes, modes_in}
use Rattle.port_termio.specs.Typing.{Typed_on, typed_on, shown_text}

-- a terminal: its editor, the messages that wait to go on, what must wait for something to come, and what it
-- has asked for last. `urgent` goes before all else, `back` is put back into its queue, and `up` and `down`
-- go on where there is room
pub record TerminalValue : Type 0 where
  pub editor : Editing
  pub urgent : Option (Side × Msg)
  pub back : Option (Side × Msg)
  pub up : Option Msg
  pub down : Option Msg
  pub waits : Waits
  pub asked : Asked

-- a terminal at which nothing was typed
abbrev pub fresh_terminal : Modes → TerminalValue
fresh_terminal modes = record {
  editor = record { modes = modes; line = [] };
  urgent = None;
  back = None;
  up = None;
  down = None;
  waits = record { all = false; up = false; down = false; rd = false; wr = false };
  asked = Nothing;
}

-- ---- what it asks for next

abbrev pub Next : Type 0
Next = Option (Side × ServiceCall) × TerminalValue

-- nothing: from now on nothing waits for anything any more, as the owner is pumped where something came
abbrev pub idle : TerminalValue → Next
idle t = (None, record t { waits = record { all = false; up = false; down = false; rd = false; wr = false }; asked = Nothing })

-- where nothing waits to go on, any message is taken, and else one of high priority alone
abbrev pub wanted : TerminalValue → Wanted
wanted t = if is_none t.up && is_none t.down then Any else Hipri

abbrev pub taking : TerminalValue → Side → Next
taking t side = (Some (side, Getq (wanted t)), record t { asked = Take side })

-- a message of the read side, and else one of the write side
abbrev pub next_taken : TerminalValue → Next
next_taken t = if t.waits.rd then (if t.waits.wr then idle t else taking t Wr) else taking t Rd

abbrev pub next_down : TerminalValue → Bool → Option Msg → Next
next_down t false (Some m) = (Some (Wr, Putnext m), record t { down = None; asked = Down })
next_down t waits down = next_taken t

abbrev pub next_up : TerminalValue → Bool → Option Msg → Next
next_up t false (Some m) = (Some (Rd, Putnext m), record t { up = None; asked = Up })
next_up t waits up = next_down t t.waits.down t.down

abbrev pub next_back : TerminalValue → Option (Side × Msg) → Next
next_back t (Some (side, m)) = (Some (side, Putbq m), record t { back = None; asked = Back side })
next_back t None = next_up t t.waits.up t.up

abbrev pub next_urgent : TerminalValue → Option (Side × Msg) → Next
next_urgent t (Some (side, m)) = (Some (side, Putnext m), record t { urgent = None; asked = Urgent side })
next_urgent t None = next_back t t.back

-- the call that a terminal asks for, and the terminal that waits for its answer
abbrev pub next_of : TerminalValue → Next
next_of t = if t.waits.all then idle t else next_urgent t t.urgent

-- ---- a message that was taken

-- a message goes on to a side as soon as there is room
abbrev pub passed_on : TerminalValue → Side → Msg → TerminalValue
passed_on t Rd m = record t { up = Some m }
passed_on t Wr m = record t { down = Some m }

abbrev pub at_once : TerminalValue → Side → Msg → TerminalValue
at_once t side m = record t { urgent = Some (side, m) }

abbrev pub bytes_of : Msg → List ℕ
bytes_of m = unwrap_or m.dat []

-- bytes as a message of data; where there are none there is no message
abbrev pub unless_empty : List ℕ → Option Msg
unless_empty bytes = if is_empty bytes then None else Some (data_msg 0 bytes)

-- the keys that are left
abbrev pub keys_left : List ℕ → Option (List ℕ)
keys_left left = if is_empty left then None else Some left

-- they go back into the read queue
abbrev pub left_of : Msg → List ℕ → Option (Side × Msg)
left_of m left = option_map (λ bytes. (Rd, data_msg m.band bytes)) (keys_left left)

-- what goes up
abbrev pub going_up : Typed_on → Option Msg
going_up did = option_map (λ bytes. data_msg 0 bytes) did.up

-- keys were typed
abbrev pub typed_by : TerminalValue → Msg → Typed_on → TerminalValue
typed_by t m did = record t {
  editor = record { modes = t.editor.modes; line = did.line };
  back = left_of m did.left;
  up = going_up did;
  down = unless_empty did.screen;
}

abbrev pub keys_taken : TerminalValue → Msg → TerminalValue
keys_taken t m = typed_by t m (typed_on t.editor.modes t.editor.line (bytes_of m))

-- a text is shown
abbrev pub text_taken : TerminalValue → Msg → TerminalValue
text_taken t m = record t { down = Some (data_msg m.band (shown_text t.editor.modes (bytes_of m))) }

-- the modes are told
abbrev pub modes_told : TerminalValue → ℕ → TerminalValue
modes_told t id = at_once t Rd (ack_msg id 0 (Some (modes_bytes t.editor.modes)))

-- a flush of the read side in band 0 empties the line, and what was to go up
abbrev pub flushes_line : MsgKind → Bool
flushes_line (MFlush r w None) = r
flushes_line (MFlush r w (Some band)) = r && (band == 0)
flushes_line kind = false

abbrev pub forgetting : TerminalValue → TerminalValue
forgetting t = record t { editor = record { modes = t.editor.modes; line = [] }; up = None }

abbrev pub high_taken : TerminalValue → Side → Msg → TerminalValue
high_taken t side m = at_once (if flushes_line m.kind then forgetting t else t) side m

-- new modes; without ICANON the line goes up
abbrev pub modes_set : TerminalValue → ℕ → Modes → TerminalValue
modes_set t id modes = at_once (record t {
  editor = with_modes modes t.editor.line;
  up = option_map (λ bytes. data_msg 0 bytes) (sent_by modes t.editor.line);
}) Rd (ack_msg id 0 None)

abbrev pub set_or_refused : TerminalValue → ℕ → Option Modes → TerminalValue
set_or_refused t id None = at_once t Rd (bare (MIocnak id EINVAL))
set_or_refused t id (Some modes) = modes_set t id modes

-- an ioctl is answered, if it is one of the terminal's
abbrev pub ioctl_taken : TerminalValue → Msg → ℕ → ℕ → TerminalValue
ioctl_taken t m id cmd =
    if cmd == GET_MODES then modes_told t id
    else if cmd == SET_MODES then set_or_refused t id (modes_in (bytes_of m))
    else passed_on t Wr m

abbrev pub ordinary_taken : TerminalValue → Side → MsgKind → Msg → TerminalValue
ordinary_taken t Rd MData m = keys_taken t m
ordinary_taken t Wr MData m = text_taken t m
ordinary_taken t Wr (MIoctl id cmd) m = ioctl_taken t m id cmd
ordinary_taken t side kind m = passed_on t side m

abbrev pub taken : TerminalValue → Side → Msg → TerminalValue
taken t side m = if is_high m.kind then high_taken t side m else ordinary_taken t side m.kind m

-- ---- what it hears

-- something went on, so messages may be taken again
abbrev pub went_on : TerminalValue → TerminalValue
went_on t = record t { waits = record t.waits { rd = false; wr = false } }

abbrev pub rd_waits : TerminalValue → TerminalValue
rd_waits t = record t { waits = record t.waits { rd = true } }

abbrev pub wr_waits : TerminalValue → TerminalValue
wr_waits t = record t { waits = record t.waits { wr = true } }

abbrev pub side_waits : TerminalValue → Side → TerminalValue
side_waits t Rd = rd_waits t
side_waits t Wr = wr_waits t

abbrev pub all_waits : TerminalValue → TerminalValue
all_waits t = record t { waits = record t.waits { all = true } }

-- a call was made that gave no message
abbrev pub done : TerminalValue → Asked → TerminalValue
done t (Take side) = side_waits t side
done t asked = went_on t

-- a call was refused, and its message waits where it was
abbrev pub put_off : TerminalValue → Asked → ServiceCall → TerminalValue
put_off t (Urgent side) (Putnext m) = all_waits (record t { urgent = Some (side, m) })
put_off t (Back side) (Putbq m) = all_waits (record t { back = Some (side, m) })
put_off t Up (Putnext m) = record t { up = Some m; waits = record t.waits { up = true } }
put_off t Down (Putnext m) = record t { down = Some m; waits = record t.waits { down = true } }
put_off t (Take side) call = side_waits t side
put_off t asked call = all_waits t

-- whether the outcome of a message takes memory: of keys, of a text, and of an ioctl of the terminal's
abbrev pub takes_memory : Side → MsgKind → Bool
takes_memory side MData = true
takes_memory Wr (MIoctl id cmd) = (cmd == GET_MODES) || (cmd == SET_MODES)
takes_memory side kind = false

-- a message that was taken; where memory runs out for its outcome, it is to be put back
abbrev pub TakesIn : TerminalValue → Side → Msg → TerminalValue → Type 0
TakesIn t side m after =
    (after ≡ taken t side m)
    ⊎ ((takes_memory side m.kind ≡ true) × (after ≡ all_waits (record t { back = Some (side, m) })))

-- the terminal hears an answer
abbrev pub HearsReply : TerminalValue → Asked → Reply → TerminalValue → Type 0
HearsReply t (Take side) (Message m) after = TakesIn t side m after
HearsReply t asked reply after = after ≡ done t asked

abbrev pub HearsOf : TerminalValue → Asked → Told → TerminalValue → Type 0
HearsOf t asked (Done reply) after = HearsReply t asked reply after
HearsOf t asked (Refused refusal call) after = after ≡ put_off t asked call
HearsOf t asked Broke after = after ≡ all_waits t

abbrev pub Hears : TerminalValue → Told → TerminalValue → Type 0
Hears t told after = HearsOf (record t { asked = Nothing }) t.asked told after
