-- The kinds answer on the sides on which they did.
use Rattle.std.proofs.Common.{◌≡◌, ℕ, ◌==◌, Option, Some, None, [], refl, unwrap_or}
use Rattle.strm_msg.specs.Message.{Msg}
use Rattle.strm_msg.specs.declared.kind.MsgKind.{MsgKind}
use Rattle.strm_msg.specs.declared.kind.MsgKind.TheVariants.{MData, MIoctl}
use Rattle.strm_msg.specs.declared.words.Side.{Side}
use Rattle.strm_msg.specs.declared.words.Side.TheVariants.{Rd, Wr}
use Rattle.std.proofs.lemmas.Bool.{cond_both}
use Rattle.strm_module.specs.Kinds.{Action, AnswersStay, kept, passed_on, answered}
use Rattle.strm_module.proofs.AnswerLemmas.{builtin_stays}
use Rattle.port_termio.specs.declared.modes.Modes.{Modes}
use Rattle.port_termio.specs.Edit.{is_empty}
use Rattle.port_termio.specs.Modes.{modes_bytes, modes_in}
use Rattle.port_ldterm_module.specs.declared.ldterm.Ldterm.{Ldterm}
use Rattle.port_ldterm_module.specs.declared.kinds.Discipline.{Discipline}
use Rattle.port_ldterm_module.specs.declared.kinds.Discipline.TheVariants.{Builtin, Terminal}
use Rattle.port_ldterm_module.specs.Ldterm.{keys_come, set_or_refused, keys_action, ioctl_action, ldterm_action, ldterm_own, ldterm_answers, typing, up_sent, discipline, discipline_acts, discipline_own, discipline_answers}

-- what holds of each outcome of keys and of ioctls
pub keys_cases : (P : Action Discipline → Type 0) (t : Ldterm) (m : Msg) → P (kept (Terminal (keys_come t (unwrap_or m.dat [])))) → P (passed_on (Terminal t) Rd m) → P (keys_action t m)
keys_cases P t m keeps passes = cond_both (m.band == 0) _ _ P (λ _. keeps) (λ _. passes)

pub ioctl_cases : (P : Action Discipline → Type 0) (t : Ldterm) (m : Msg) (id cmd : ℕ) → P (answered (Terminal t) id 0 (Some (modes_bytes t.editor.modes))) → ((modes : Option Modes) → P (set_or_refused t id modes)) → P (passed_on (Terminal t) Wr m) → P (ioctl_action t m id cmd)
ioctl_cases P t m id cmd says sets passes =
    cond_both (cmd == 1) _ _ P (λ _. says)
    (λ _. cond_both (cmd == 2) _ _ P (λ _. sets (modes_in (unwrap_or m.dat []))) (λ _. passes))

pub own_cases : (P : Action Discipline → Type 0) (t : Ldterm) → P (typing t) → P (up_sent t) → P (ldterm_own t Rd)
own_cases P t types goes = cond_both (is_empty t.up) _ _ P (λ _. types) (λ _. goes)

-- a terminal stays one, and answers as it did
abbrev Stays : Side → Action Discipline → Type 0
Stays other action = discipline_answers action.kind other ≡ ldterm_answers other

set_stays : (t : Ldterm) (id : ℕ) (other : Side) (modes : Option Modes) → Stays other (set_or_refused t id modes)
set_stays t id other None = refl
set_stays t id other (Some modes) = refl

action_stays : (t : Ldterm) (side other : Side) (kind : MsgKind) (m : Msg) → Stays other (ldterm_action t side kind m)
action_stays t Rd other MData m = keys_cases (Stays other) t m refl refl
action_stays t Wr other MData m = refl
action_stays t Wr other (MIoctl id cmd) m = ioctl_cases (Stays other) t m id cmd refl (set_stays t id other) refl
action_stays t Rd other kind m = refl
action_stays t Wr other kind m = refl

acts_stay : (kind : Discipline) (side other : Side) (m : Msg) → discipline_answers (discipline_acts kind side m).kind other ≡ discipline_answers kind other
acts_stay (Builtin kind) side other m = builtin_stays.acts kind side other m
acts_stay (Terminal t) side other m = action_stays t side other m.kind m

own_stays : (kind : Discipline) (side other : Side) → discipline_answers (discipline_own kind side).kind other ≡ discipline_answers kind other
own_stays (Builtin kind) side other = refl
own_stays (Terminal t) Rd other = own_cases (Stays other) t refl refl
own_stays (Terminal t) Wr other = refl

pub discipline_stays : AnswersStay discipline
discipline_stays = record { acts = acts_stay; own = own_stays; expire = λ kind ticks other. refl }
