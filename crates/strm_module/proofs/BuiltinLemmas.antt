-- What the built-in kinds make of a message on its way up goes further up.
use Rattle.std.proofs.Common.{◌≡◌, ◌==◌, ℕ, Bool, true, false, cond, nat_lt, List, [], ◌++◌, length, unwrap_or, refl}
use Rattle.strm_msg.specs.Kind.{is_high}
use Rattle.strm_msg.specs.Message.{Msg}
use Rattle.strm_msg.specs.declared.kind.MsgKind.{MsgKind}
use Rattle.strm_msg.specs.declared.kind.MsgKind.TheVariants.{MData}
use Rattle.strm_msg.specs.declared.words.Side.TheVariants.{Rd}
use Rattle.strm_module.specs.Bytes.{rest_len, whole_lines}
use Rattle.strm_module.specs.Kinds.{OutList, Action, all_go_up}
use Rattle.strm_module.specs.Builtin.{line_splits, crnl_action, line_action, ordinary_action, builtin_acts}
use Rattle.strm_module.specs.declared.kind.TheConstants.{MOST_KEPT}
use Rattle.strm_module.specs.declared.kind.Kind.{Kind}
use Rattle.strm_module.specs.declared.kind.Kind.TheVariants.{CrNl, Line}

abbrev GoUp : OutList → Type 0
GoUp outs = all_go_up outs ≡ true

if_up : (b : Bool) (x y : OutList) → GoUp x → GoUp y → GoUp (cond b x y)
if_up true x y p q = p
if_up false x y p q = q

action_if_up : (b : Bool) (x y : Action Kind) → GoUp x.outs → GoUp y.outs → GoUp (cond b x y).outs
action_if_up true x y p q = p
action_if_up false x y p q = q

line_splits_up : (bytes : List ℕ) → GoUp (line_splits bytes).outs
line_splits_up bytes =
    action_if_up (nat_lt MOST_KEPT (rest_len bytes)) _ _ refl (if_up (length (whole_lines bytes) == 0) _ _ refl refl)

line_up : (partial : List ℕ) (kind : MsgKind) (m : Msg) → GoUp (line_action partial Rd kind m).outs
line_up partial MData m =
    action_if_up (m.band == 0) _ _ (line_splits_up (partial ++ unwrap_or m.dat [])) refl
line_up partial kind m = refl

crnl_up : (kind : MsgKind) (m : Msg) → GoUp (crnl_action Rd kind m).outs
crnl_up MData m = refl
crnl_up kind m = refl

ordinary_up : (kind : Kind) (m : Msg) → GoUp (ordinary_action kind Rd m).outs
ordinary_up (Line partial) m = line_up partial m.kind m
ordinary_up CrNl m = crnl_up m.kind m
ordinary_up kind m = refl

-- what comes up is only sent further up
pub builtin_up : (kind : Kind) (m : Msg) → all_go_up (builtin_acts kind Rd m).outs ≡ true
builtin_up kind m = action_if_up (is_high m.kind) _ _ refl (ordinary_up kind m)
