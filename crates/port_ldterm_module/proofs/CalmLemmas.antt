-- What a terminal makes of a message that flushes nothing flushes nothing, and it makes no options.
use Rattle.std.proofs.Common.{◌≡◌, ◌≤◌, ℕ, Bool, true, Option, Some, None, List, [], ◌∷◌, option_map, refl, ap, arith}
use Rattle.std.proofs.lemmas.List.Sums.{sum_by-cons}
use Rattle.std.proofs.lemmas.Bool.{and_from}
use Rattle.strm_msg.specs.declared.errno.Errno.TheVariants.{EINVAL}
use Rattle.strm_msg.specs.Message.{Msg, Part, bare, data_msg, ack_msg}
use Rattle.strm_msg.specs.declared.kind.MsgKind.{MsgKind}
use Rattle.strm_msg.specs.declared.kind.MsgKind.TheVariants.{MData, MIoctl, MIocnak}
use Rattle.strm_msg.specs.declared.words.Side.{Side}
use Rattle.strm_msg.specs.declared.words.Side.TheVariants.{Rd, Wr}
use Rattle.strm_module.specs.Kinds.{Action}
use Rattle.strm_module.specs.Calm.{is_calm, are_calm, options_by, options_of, options_sent, MakesCalm}
use Rattle.strm_module.proofs.CalmLemmas.{same_keeps, other_keeps, builtin_calm}
use Rattle.port_termio.specs.declared.modes.Modes.{Modes}
use Rattle.port_termio.specs.Modes.{modes_bytes}
use Rattle.port_termio.specs.Typing.{typed_on, shown_text}
use Rattle.port_ldterm_module.specs.declared.ldterm.Ldterm.{Ldterm}
use Rattle.port_ldterm_module.specs.declared.kinds.Discipline.{Discipline}
use Rattle.port_ldterm_module.specs.declared.kinds.Discipline.TheVariants.{Builtin, Terminal}
use Rattle.port_ldterm_module.specs.Ldterm.{line_up, set_or_refused, ldterm_action, discipline, discipline_acts, discipline_own}
use Rattle.port_ldterm_module.proofs.AnswerLemmas.{keys_cases, ioctl_cases, own_cases}

-- ---- calm

abbrev IsCalmly : Action Discipline → Type 0
IsCalmly action = are_calm action.outs ≡ true

one_calm : (side : Side) (m : Msg) → is_calm m.kind ≡ true → are_calm ((side, m) ∷ []) ≡ true
one_calm side m h = and_from (is_calm m.kind) true h refl

set_calm : (t : Ldterm) (id : ℕ) (modes : Option Modes) → IsCalmly (set_or_refused t id modes)
set_calm t id None = refl
set_calm t id (Some modes) = refl

action_calm : (t : Ldterm) (side : Side) (kind : MsgKind) (m : Msg) → is_calm m.kind ≡ true → IsCalmly (ldterm_action t side kind m)
action_calm t Rd MData m h = keys_cases IsCalmly t m refl (one_calm Rd m h)
action_calm t Wr MData m h = one_calm Wr m h
action_calm t Wr (MIoctl id cmd) m h = ioctl_cases IsCalmly t m id cmd refl (set_calm t id) (one_calm Wr m h)
action_calm t Rd kind m h = one_calm Rd m h
action_calm t Wr kind m h = one_calm Wr m h

still_calm : (kind : Discipline) (side : Side) (m : Msg) → is_calm m.kind ≡ true → are_calm (discipline_acts kind side m).outs ≡ true
still_calm (Builtin kind) side m h = builtin_calm.makes.calm kind side m h
still_calm (Terminal t) side m h = action_calm t side m.kind m h

line_calm : (up : Option (List ℕ)) → are_calm (line_up up) ≡ true
line_calm None = refl
line_calm (Some line) = refl

own_calm : (kind : Discipline) (side : Side) → are_calm (discipline_own kind side).outs ≡ true
own_calm (Builtin kind) side = refl
own_calm (Terminal t) Rd =
    own_cases IsCalmly t (line_calm (typed_on t.editor.modes t.editor.line t.keys).up) refl
own_calm (Terminal t) Wr = refl

-- ---- options

-- what leaves sets no more options than these
abbrev SetsMost : Bool → ℕ → Action Discipline → Type 0
SetsMost b n action = options_sent b action.outs ≤ n

none_sent : (b : Bool) (n : ℕ) → options_sent b [] ≤ n
none_sent b n = omega arith

one_sent : (b : Bool) (n : ℕ) (side : Side) (m : Msg) → options_of b m ≡ 0 → options_sent b ((side, m) ∷ []) ≤ n
one_sent b n side m h =
    let e = sum_by-cons (λ (out : Side × Msg). options_of b out.1) (side, m) [] in omega (arith, e, h)

set_sets : (b : Bool) (n : ℕ) (t : Ldterm) (id : ℕ) (modes : Option Modes) → SetsMost b n (set_or_refused t id modes)
set_sets b n t id None = one_sent b n Rd (bare (MIocnak id EINVAL)) refl
set_sets b n t id (Some modes) = one_sent b n Rd (ack_msg id 0 None) refl

acts_set : (b : Bool) (t : Ldterm) (side : Side) (kind : MsgKind) (m : Msg) → m.kind ≡ kind → SetsMost b (options_of b m) (ldterm_action t side kind m)
acts_set b t Rd MData m at =
    keys_cases (SetsMost b (options_of b m)) t m (none_sent b (options_of b m)) (same_keeps b Rd m)
acts_set b t Wr MData m at =
    let dat : Part = option_map (shown_text t.editor.modes) m.dat in
    other_keeps b Wr m (record m { dat = dat }) (ap (λ k. options_by b k dat) at)
acts_set b t Wr (MIoctl id cmd) m at =
    let most = options_of b m in
    ioctl_cases (SetsMost b most) t m id cmd
    (one_sent b most Rd (ack_msg id 0 (Some (modes_bytes t.editor.modes))) refl)
    (set_sets b most t id)
    (same_keeps b Wr m)
acts_set b t Rd kind m at = same_keeps b Rd m
acts_set b t Wr kind m at = same_keeps b Wr m

discipline_sets : (b : Bool) (kind : Discipline) (side : Side) (m : Msg) → options_sent b (discipline_acts kind side m).outs ≤ options_of b m
discipline_sets b (Builtin kind) side m = builtin_calm.makes.options b kind side m
discipline_sets b (Terminal t) side m = acts_set b t side m.kind m refl

line_sets : (b : Bool) (up : Option (List ℕ)) → options_sent b (line_up up) ≤ 0
line_sets b None = none_sent b 0
line_sets b (Some line) = one_sent b 0 Rd (data_msg 0 line) refl

own_sets : (b : Bool) (kind : Discipline) (side : Side) → options_sent b (discipline_own kind side).outs ≤ 0
own_sets b (Builtin kind) side = none_sent b 0
own_sets b (Terminal t) Rd =
    own_cases (SetsMost b 0) t
    (line_sets b (typed_on t.editor.modes t.editor.line t.keys).up)
    (one_sent b 0 Rd (data_msg 0 t.up) refl)
own_sets b (Terminal t) Wr = one_sent b 0 Wr (data_msg 0 t.echo) refl

pub discipline_calm : MakesCalm discipline
discipline_calm = record { calm = still_calm; options = discipline_sets; own = own_calm; own_options = own_sets }
