-- Of the built-in kinds a tee alone sends something ordinary up for what goes down.
use Rattle.std.proofs.Common.{◌≡◌, ◌==◌, ℕ, Bool, true, false, cond, nat_lt, List, [], length, unwrap_or, refl}
use Rattle.strm_msg.specs.Kind.{is_high}
use Rattle.strm_msg.specs.Message.{Msg}
use Rattle.strm_msg.specs.declared.kind.MsgKind.{MsgKind}
use Rattle.strm_msg.specs.declared.kind.MsgKind.TheVariants.{MData, MProto, MIoctl}
use Rattle.strm_msg.specs.declared.words.Side.TheVariants.{Wr}
use Rattle.strm_module.specs.Kinds.{Action}
use Rattle.strm_module.specs.Builtin.{table_action, crnl_action, line_action, count_action, band_action, mute_action, split_action, ordinary_action, builtin}
use Rattle.strm_module.specs.declared.kind.Kind.{Kind}
use Rattle.strm_module.specs.declared.kind.Kind.TheVariants.{Pass, Table, CrNl, Line, Count, Band, Tee, Mute, Split}
use Rattle.strm_chain_settling.specs.Orderly.{ups_are_high}

if_ups : (b : Bool) (x y : Action Kind) → ups_are_high x.outs ≡ true → ups_are_high y.outs ≡ true → ups_are_high (cond b x y).outs ≡ true
if_ups true x y p q = p
if_ups false x y p q = q

table_ups : (table : List ℕ) (kind : MsgKind) (m : Msg) → ups_are_high (table_action table Wr kind m).outs ≡ true
table_ups table MData m = refl
table_ups table (MIoctl id cmd) m = if_ups (cmd == 3) _ _ refl refl
table_ups table kind m = refl

crnl_ups : (kind : MsgKind) (m : Msg) → ups_are_high (crnl_action Wr kind m).outs ≡ true
crnl_ups MData m = refl
crnl_ups kind m = refl

line_ups : (partial : List ℕ) (kind : MsgKind) (m : Msg) → ups_are_high (line_action partial Wr kind m).outs ≡ true
line_ups partial MData m = refl
line_ups partial kind m = refl

count_ups : (n : ℕ) (kind : MsgKind) (m : Msg) → ups_are_high (count_action n Wr kind m).outs ≡ true
count_ups n MData m = refl
count_ups n (MIoctl id cmd) m = if_ups (cmd == 1) _ _ refl (if_ups (cmd == 2) _ _ refl refl)
count_ups n kind m = refl

band_ups : (b : ℕ) (kind : MsgKind) (m : Msg) → ups_are_high (band_action b Wr kind m).outs ≡ true
band_ups b MData m = refl
band_ups b MProto m = refl
band_ups b kind m = refl

mute_ups : (kind : MsgKind) (m : Msg) → ups_are_high (mute_action Wr kind m).outs ≡ true
mute_ups MData m = refl
mute_ups kind m = refl

split_ups : (n : ℕ) (kind : MsgKind) (m : Msg) → ups_are_high (split_action n Wr kind m).outs ≡ true
split_ups n MData m = if_ups (nat_lt n (length (unwrap_or m.dat []))) _ _ refl refl
split_ups n kind m = refl

ordinary_ups : (kind : Kind) (m : Msg) → builtin.answers kind Wr ≡ false → ups_are_high (ordinary_action kind Wr m).outs ≡ true
ordinary_ups Pass m is = refl
ordinary_ups (Table table) m is = table_ups table m.kind m
ordinary_ups CrNl m is = crnl_ups m.kind m
ordinary_ups (Line partial) m is = line_ups partial m.kind m
ordinary_ups (Count n) m is = count_ups n m.kind m
ordinary_ups (Band b) m is = band_ups b m.kind m
ordinary_ups Tee m is = cc
ordinary_ups Mute m is = mute_ups m.kind m
ordinary_ups (Split n) m is = split_ups n m.kind m

pub builtin_ups : (kind : Kind) (m : Msg) → builtin.answers kind Wr ≡ false → ups_are_high (builtin.acts kind Wr m).outs ≡ true
builtin_ups kind m is = if_ups (is_high m.kind) _ _ refl (ordinary_ups kind m is)
