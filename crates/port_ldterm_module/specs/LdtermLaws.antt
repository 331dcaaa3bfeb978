-- The purpose of a line discipline as a module: what goes up and down, whatever the order of its services.
use Rattle.std.specs.Prelude.{◌≡◌, ℕ, true, false, List, [], ◌∷◌, ◌++◌, if◌then◌else◌, map, unwrap_or}
use Rattle.std.specs.List.{flat_map, concat}
use Rattle.strm_msg.specs.Message.{Msg, data_msg}
use Rattle.strm_msg.specs.declared.words.Side.{Side}
use Rattle.strm_msg.specs.declared.words.Side.TheVariants.{Rd, Wr}
use Rattle.strm_module.specs.Kinds.{OutList, Action, kept}
use Rattle.port_termio.specs.Edit.{Typed, and_then, is_empty, meant, typed}
use Rattle.port_ldterm_module.specs.declared.ldterm.Ldterm.{Ldterm}
use Rattle.port_ldterm_module.specs.declared.kinds.Discipline.{Discipline}
use Rattle.port_ldterm_module.specs.declared.kinds.Discipline.TheVariants.{Terminal}
use Rattle.port_ldterm_module.specs.Ldterm.{discipline}

-- what happens at a module: data of band 0 comes up and has its turn, or a side sends of its own
pub data Event : Type 0 where
  Comes : List ℕ → Event
  Sends : Side → Event

abbrev pub happens : Discipline → Event → Action Discipline
happens kind (Comes keys) = discipline.acts kind Rd (data_msg 0 keys)
happens kind (Sends side) = discipline.own kind side

-- one event after another, in any order
abbrev pub all_happen : Discipline → List Event → Action Discipline
all_happen kind [] = kept kind
all_happen kind (event ∷ events) =
    let first = happens kind event in
    let rest = all_happen first.kind events in
    record { kind = rest.kind; outs = first.outs ++ rest.outs }

-- the keys that came
abbrev pub keys_of : Event → List ℕ
keys_of (Comes keys) = keys
keys_of (Sends side) = []

abbrev pub all_keys : List Event → List ℕ
all_keys events = flat_map keys_of events

-- the lines that went up, message by message, and the bytes that went down
abbrev pub line_of : Side → Msg → List (List ℕ)
line_of Rd m = unwrap_or m.dat [] ∷ []
line_of Wr m = []

abbrev pub screen_of : Side → Msg → List ℕ
screen_of Rd m = []
screen_of Wr m = unwrap_or m.dat []

abbrev pub lines_sent : OutList → List (List ℕ)
lines_sent [] = []
lines_sent (out ∷ outs) = line_of out.0 out.1 ++ lines_sent outs

abbrev pub screen_sent : OutList → List ℕ
screen_sent [] = []
screen_sent (out ∷ outs) = screen_of out.0 out.1 ++ screen_sent outs

abbrev pub sent : OutList → Typed
sent outs = record { lines = lines_sent outs; line = []; screen = screen_sent outs }

-- what a terminal is still to send: a line that new modes sent up, and what was not shown yet
abbrev pub waiting : Ldterm → Typed
waiting t = record { lines = if is_empty t.up then [] else t.up ∷ []; line = []; screen = t.echo }

-- what it sends in all, once its keys and these have been typed
abbrev pub promised : Ldterm → List ℕ → Typed
promised t more = and_then (waiting t) (typed t.editor.modes t.editor.line (t.keys ++ more))

-- with ICANON the lines that went up, and those that are still to go up, are the lines of the keys that were
-- typed, each of them once, in order; what went down, and what is still to go down, is what these keys show
pub record AreSent (t : Ldterm) (events : List Event) (after : Ldterm) (outs : OutList) : Type 0 where
  pub happened : all_happen (Terminal t) events ≡ record { kind = Terminal after; outs = outs }
  pub modes : after.editor.modes ≡ t.editor.modes
  pub typed : promised t (all_keys events) ≡ and_then (sent outs) (promised after [])

abbrev pub LinesAreSent : Type 0
LinesAreSent =
    (t : Ldterm) (events : List Event) → t.editor.modes.icanon ≡ true →
    (after : Ldterm) × (outs : OutList) × AreSent t events after outs

-- the bytes that a terminal is still to send up without ICANON
abbrev pub raw_promised : Ldterm → List ℕ → List ℕ
raw_promised t more = t.up ++ map (meant t.editor.modes) (t.keys ++ more)

-- without ICANON all keys go up as they were meant, in order, and are shown likewise
pub record AreSentRaw (t : Ldterm) (events : List Event) (after : Ldterm) (outs : OutList) : Type 0 where
  pub happened : all_happen (Terminal t) events ≡ record { kind = Terminal after; outs = outs }
  pub modes : after.editor.modes ≡ t.editor.modes
  pub bytes : raw_promised t (all_keys events) ≡ concat (lines_sent outs) ++ raw_promised after []
  pub screen : (promised t (all_keys events)).screen ≡ screen_sent outs ++ (promised after []).screen

abbrev pub RawKeysAreSent : Type 0
RawKeysAreSent =
    (t : Ldterm) (events : List Event) → t.editor.modes.icanon ≡ false →
    (after : Ldterm) × (outs : OutList) × AreSentRaw t events after outs
