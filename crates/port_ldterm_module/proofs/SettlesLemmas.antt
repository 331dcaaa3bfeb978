-- Each sending makes a terminal owe less, and nothing goes round.
use Rattle.std.proofs.Common.{◌≡◌, ◌<◌, ◌≤◌, ◌+◌, ◌*◌, ℕ, Bool, true, false, ◌==◌, ◌||◌, cond, Option, Some, None, List, [], ◌∷◌, ◌++◌, length, nat_le, unwrap_or, is_some, refl, ap, sym, ◌∙◌, append-nil, subst, arith}
use Rattle.std.proofs.lemmas.Bool.{and_from, cond_both}
use Rattle.strm_chain_settling.proofs.ModuleLemmas.{data_low}
use Rattle.strm_chain_ends.proofs.CalmLemmas.{le_same}
use Rattle.strm_msg.specs.Kind.{is_high}
use Rattle.strm_msg.specs.Message.{Msg}
use Rattle.strm_msg.specs.declared.kind.MsgKind.{MsgKind}
use Rattle.strm_msg.specs.declared.kind.MsgKind.TheVariants.{MData, MIoctl, MFlush, MHangup}
use Rattle.strm_msg.specs.declared.words.Side.{Side}
use Rattle.strm_msg.specs.declared.words.Side.TheVariants.{Rd, Wr}
use Rattle.strm_module.specs.Kinds.{Action}
use Rattle.strm_module.specs.declared.turn.Turn.TheVariants.{Serves, Shut, Sends}
use Rattle.strm_chain_ends.specs.Image.{Image}
use Rattle.strm_chain_ends.specs.Order.{IsOrdered}
use Rattle.strm_chain_settling.specs.Ends.{Ends}
use Rattle.strm_chain_settling.specs.Orderly.{are_high, ups_are_high, other_side, IsOrderly}
use Rattle.strm_chain_settling.proofs.SettlingLemmas.{settling_ends, builtin_orderly}
use Rattle.strm_chain_settling.proofs.BuiltinLemmas.{builtin_ups}
use Rattle.port_termio.specs.declared.modes.Modes.{Modes}
use Rattle.port_termio.specs.Edit.{After, echo_bytes, is_empty, key_typed}
use Rattle.port_termio.specs.Typing.{Typed_on, stopped_by, shown_before, line_typed, raw_typed, typed_on}
use Rattle.port_ldterm_module.specs.declared.ldterm.Ldterm.{Ldterm}
use Rattle.port_ldterm_module.specs.declared.kinds.Discipline.{Discipline}
use Rattle.port_ldterm_module.specs.declared.kinds.Discipline.TheVariants.{Builtin, Terminal}
use Rattle.port_ldterm_module.specs.Ldterm.{band_flushed, flushed, passing, modes_set, typing, up_sent, set_or_refused, ldterm_action, typing_turn, discipline, discipline_acts, discipline_turn, discipline_own, if_some, debt}
use Rattle.port_ldterm_module.proofs.SentLemmas.{some_byte}
use Rattle.port_ldterm_module.proofs.AnswerLemmas.{ioctl_cases, discipline_stays}

-- ---- how much a side owes

if_some-most : (bytes : List ℕ) → if_some bytes ≤ 1
if_some-most bytes = cond_both (is_empty bytes) 0 1 (λ n. n ≤ 1) (λ e. omega arith) (λ e. omega arith)

if_some-one : (byte : ℕ) (bytes : List ℕ) → if_some (byte ∷ bytes) ≡ 1
if_some-one byte bytes = ap (λ b. cond b 0 1) (some_byte byte bytes)

-- a terminal that owes no more than another on both sides
record OwesMost (t after : Ldterm) : Type 0 where
  up : debt (Terminal after) Rd ≤ debt (Terminal t) Rd
  down : debt (Terminal after) Wr ≤ debt (Terminal t) Wr

owes-on : (t after : Ldterm) → OwesMost t after → (side : Side) → debt (Terminal after) side ≤ debt (Terminal t) side
owes-on t after h Rd = h.up
owes-on t after h Wr = h.down

owes-same : (t : Ldterm) → OwesMost t t
owes-same t = record { up = le_same (debt (Terminal t) Rd); down = le_same (debt (Terminal t) Wr) }

-- ---- flushes

flushed_owes : (t : Ldterm) (r w : Bool) → OwesMost t (flushed t r w)
flushed_owes t true true = record { up = omega arith; down = omega arith }
flushed_owes t true false = record { up = omega arith; down = omega arith }
flushed_owes t false true = record { up = omega arith; down = omega arith }
flushed_owes t false false = owes-same t

band_owes : (t : Ldterm) (r w : Bool) (band : Option ℕ) → OwesMost t (band_flushed t r w band)
band_owes t r w None = flushed_owes t r w
band_owes t r w (Some band) =
    cond_both (band == 0) _ _ (OwesMost t) (λ _. flushed_owes t r w) (λ _. owes-same t)

passing_owes : (t : Ldterm) (kind : MsgKind) → OwesMost t (passing t kind)
passing_owes t (MFlush r w band) = band_owes t r w band
passing_owes t MHangup = flushed_owes t true true
passing_owes t kind = owes-same t

-- ---- what a high message does

action_tame : (t : Ldterm) (side : Side) (kind : MsgKind) (m : Msg) → m.kind ≡ kind → is_high m.kind ≡ true → are_high (ldterm_action t side kind m).outs ≡ true
action_tame t Rd MData m at high = absurd (data_low m at high)
action_tame t Wr MData m at high = absurd (data_low m at high)
action_tame t Wr (MIoctl id cmd) m at high = let no : false ≡ true = ap is_high (sym at) ∙ high in cc
action_tame t Rd kind m at high = and_from (is_high m.kind) true high refl
action_tame t Wr kind m at high = and_from (is_high m.kind) true high refl

discipline_tame : (kind : Discipline) (side : Side) (m : Msg) → is_high m.kind ≡ true → are_high (discipline_acts kind side m).outs ≡ true
discipline_tame (Builtin kind) side m high = builtin_orderly.tame kind side m high
discipline_tame (Terminal t) side m high = action_tame t side m.kind m refl high

action_owes : (t : Ldterm) (side owing : Side) (kind : MsgKind) (m : Msg) → m.kind ≡ kind → is_high m.kind ≡ true → debt (ldterm_action t side kind m).kind owing ≤ debt (Terminal t) owing
action_owes t Rd owing MData m at high = absurd (data_low m at high)
action_owes t Wr owing MData m at high = absurd (data_low m at high)
action_owes t Wr owing (MIoctl id cmd) m at high = let no : false ≡ true = ap is_high (sym at) ∙ high in cc
action_owes t Rd owing kind m at high = owes-on t (passing t kind) (passing_owes t kind) owing
action_owes t Wr owing kind m at high = owes-on t (passing t kind) (passing_owes t kind) owing

discipline_owes : (kind : Discipline) (side owing : Side) (m : Msg) → is_high m.kind ≡ true → debt (discipline_acts kind side m).kind owing ≤ debt kind owing
discipline_owes (Builtin kind) side owing m high = le_same 0
discipline_owes (Terminal t) side owing m high = action_owes t side owing m.kind m refl high

-- ---- what goes down

-- a line that new modes let go was owed before
moved : (n : ℕ) (canon : Bool) (up line : List ℕ) → if_some (up ++ unwrap_or (cond (canon || is_empty line) None (Some line)) []) + if_some (cond canon line []) + n ≤ if_some up + if_some line + n
moved n true up line = omega (arith, ap if_some (append-nil up))
moved n false up [] = omega (arith, ap if_some (append-nil up))
moved n false up (byte ∷ line) =
    let sent : if_some (up ++ unwrap_or (cond (is_empty (byte ∷ line)) None (Some (byte ∷ line))) []) ≤ 1 = if_some-most _ in
    omega (arith, sent, if_some-one byte line)

set_owes : (t : Ldterm) (modes : Modes) → debt (Terminal (modes_set t modes)) Rd ≤ debt (Terminal t) Rd
set_owes t modes = moved (2 * length t.keys) modes.icanon t.up t.editor.line

set_or_owes : (t : Ldterm) (id : ℕ) (modes : Option Modes) → debt (set_or_refused t id modes).kind Rd ≤ debt (Terminal t) Rd
set_or_owes t id None = le_same (debt (Terminal t) Rd)
set_or_owes t id (Some modes) = set_owes t modes

-- messages of the write side make the read side owe no more
abbrev OwesUp : Ldterm → Action Discipline → Type 0
OwesUp t action = debt action.kind Rd ≤ debt (Terminal t) Rd

action_unanswered : (t : Ldterm) (kind : MsgKind) (m : Msg) → OwesUp t (ldterm_action t Wr kind m)
action_unanswered t MData m = le_same (debt (Terminal t) Rd)
action_unanswered t (MIoctl id cmd) m =
    let same = le_same (debt (Terminal t) Rd) in ioctl_cases (OwesUp t) t m id cmd same (set_or_owes t id) same
action_unanswered t kind m = let most = passing_owes t kind in most.up

unanswered : (kind : Discipline) (side : Side) (m : Msg) → discipline.answers kind side ≡ false → debt (discipline_acts kind side m).kind (other_side side) ≤ debt kind (other_side side)
unanswered (Builtin kind) side m is = le_same 0
unanswered (Terminal t) Rd m is = cc
unanswered (Terminal t) Wr m is = action_unanswered t m.kind m

-- what goes up for them is high
abbrev UpsAreHigh : Action Discipline → Type 0
UpsAreHigh action = ups_are_high action.outs ≡ true

set_ups : (t : Ldterm) (id : ℕ) (modes : Option Modes) → UpsAreHigh (set_or_refused t id modes)
set_ups t id None = refl
set_ups t id (Some modes) = refl

action_ups : (t : Ldterm) (kind : MsgKind) (m : Msg) → UpsAreHigh (ldterm_action t Wr kind m)
action_ups t MData m = refl
action_ups t (MIoctl id cmd) m = ioctl_cases UpsAreHigh t m id cmd refl (set_ups t id) refl
action_ups t kind m = refl

discipline_ups : (kind : Discipline) (m : Msg) → discipline.answers kind Wr ≡ false → ups_are_high (discipline_acts kind Wr m).outs ≡ true
discipline_ups (Builtin kind) m is = builtin_ups kind m is
discipline_ups (Terminal t) m is = action_ups t m.kind m

discipline_own_ups : (kind : Discipline) (band : Option ℕ) → discipline_turn kind Wr ≡ Sends band → ups_are_high (discipline_own kind Wr).outs ≡ true
discipline_own_ups (Builtin kind) band turn = cc
discipline_own_ups (Terminal t) band turn = refl

-- ---- what a side sends of its own

-- a turn of typing leaves fewer keys
stopped_left : (up : Bool) (after : After) (keys : List ℕ) (more : Typed_on) → length more.left ≤ length keys → length (cond up (stopped_by after keys) (shown_before (echo_bytes after.echo) more)).left ≤ length keys
stopped_left true after keys more h = le_same (length keys)
stopped_left false after keys more h = h

line_left : (modes : Modes) (line keys : List ℕ) → length (line_typed modes line keys).left ≤ length keys
line_left modes line [] = omega arith
line_left modes line (key ∷ keys) =
    let after = key_typed modes line key in
    let fewer = stopped_left (is_some after.up) after keys (line_typed modes after.line keys) (line_left modes after.line keys) in
    omega (arith, fewer)

typed_left : (modes : Modes) (line : List ℕ) (key : ℕ) (keys : List ℕ) → length (typed_on modes line (key ∷ keys)).left < length (key ∷ keys)
typed_left modes line key keys =
    cond_both modes.icanon (line_typed modes line (key ∷ keys)) (raw_typed modes line (key ∷ keys)) (λ did. length did.left < length (key ∷ keys))
    (λ _.
    let after = key_typed modes line key in
    let fewer = stopped_left (is_some after.up) after keys (line_typed modes after.line keys) (line_left modes after.line keys) in
    omega (arith, fewer))
    (λ _. omega arith)

-- a terminal that owes less on the read side, and no more on the write side
record OwesLess (t : Ldterm) (after : Discipline) : Type 0 where
  up : debt after Rd < debt (Terminal t) Rd
  down : debt after Wr ≤ debt (Terminal t) Wr

keys_owe : (t : Ldterm) (keys : List ℕ) → t.keys ≡ keys → is_empty t.up ≡ true → is_empty keys ≡ false → OwesLess t (typing t).kind
keys_owe t [] at up some = cc
keys_owe t (key ∷ keys) at up some =
    let did = typed_on t.editor.modes t.editor.line t.keys in
    let fewer : length did.left < length t.keys = subst (λ (k : List ℕ). length (typed_on t.editor.modes t.editor.line k).left < length k) (sym at) (typed_left t.editor.modes t.editor.line key keys) in
    let line = if_some-most did.line in
    let echo = if_some-most (t.echo ++ did.screen) in
    record { up = omega (arith, fewer, line); down = omega (arith, fewer, echo) }

typed_on_turn : (t : Ldterm) (band : Option ℕ) (full none : Bool) → is_empty t.up ≡ true → is_empty t.keys ≡ none → cond full Shut (cond none Serves (Sends (Some 0))) ≡ Sends band → OwesLess t (typing t).kind
typed_on_turn t band true none up at turn = cc
typed_on_turn t band false true up at turn = cc
typed_on_turn t band false false up at turn = keys_owe t t.keys refl up at

typing_owes : (t : Ldterm) (band : Option ℕ) → is_empty t.up ≡ true → typing_turn t ≡ Sends band → OwesLess t (typing t).kind
typing_owes t band up turn = typed_on_turn t band (nat_le 64 (length t.echo)) (is_empty t.keys) up refl turn

up_owes : (t : Ldterm) → is_empty t.up ≡ false → OwesLess t (up_sent t).kind
up_owes t some =
    let one : if_some t.up ≡ 1 = ap (λ b. cond b 0 1) some in
    record { up = omega (arith, one); down = le_same (debt (Terminal t) Wr) }

read_owes : (t : Ldterm) (band : Option ℕ) (none : Bool) → is_empty t.up ≡ none → cond none (typing_turn t) (Sends (Some 0)) ≡ Sends band → OwesLess t (cond none (typing t) (up_sent t)).kind
read_owes t band true at turn = typing_owes t band at turn
read_owes t band false at turn = up_owes t at

echo_owes : (t : Ldterm) (band : Option ℕ) (none : Bool) → is_empty t.echo ≡ none → cond none Serves (Sends (Some 0)) ≡ Sends band → if_some [] + length t.keys < if_some t.echo + length t.keys
echo_owes t band true at turn = cc
echo_owes t band false at turn = let one : if_some t.echo ≡ 1 = ap (λ b. cond b 0 1) at in omega (arith, one)

discipline_owns : (kind : Discipline) (side : Side) (band : Option ℕ) → discipline_turn kind side ≡ Sends band → debt (discipline_own kind side).kind side < debt kind side
discipline_owns (Builtin kind) side band turn = cc
discipline_owns (Terminal t) Rd band turn = let less = read_owes t band (is_empty t.up) refl turn in less.up
discipline_owns (Terminal t) Wr band turn = echo_owes t band (is_empty t.echo) refl turn

discipline_owns_alone : (kind : Discipline) (side : Side) (band : Option ℕ) → discipline_turn kind side ≡ Sends band → debt (discipline_own kind side).kind (other_side side) ≤ debt kind (other_side side)
discipline_owns_alone (Builtin kind) side band turn = le_same 0
discipline_owns_alone (Terminal t) Rd band turn = let less = read_owes t band (is_empty t.up) refl turn in less.down
discipline_owns_alone (Terminal t) Wr band turn = le_same (debt (Terminal t) Rd)

-- ---- the law

pub discipline_orderly : IsOrderly discipline debt
discipline_orderly =
    record {
      tame = discipline_tame;
      tame_debt = discipline_owes;
      unanswered = unanswered;
      unanswered_ups = discipline_ups;
      unanswered_own = λ kind band turn is. discipline_own_ups kind band turn;
      owns = discipline_owns;
      owns_alone = discipline_owns_alone;
      stays = discipline_stays;
    }

pub discipline_settles : (image : Image Discipline) → IsOrdered discipline image → Ends discipline image
discipline_settles image ordered = settling_ends discipline debt discipline_orderly image ordered
