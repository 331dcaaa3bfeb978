-- What the built-in kinds make of a message answers on the sides on which they did.
use Rattle.std.proofs.Common.{◌≡◌, ◌==◌, ◌++◌, ℕ, Bool, true, false, cond, nat_lt, Some, None, List, [], length, unwrap_or, refl}
use Rattle.strm_msg.specs.Kind.{is_high}
use Rattle.strm_msg.specs.Message.{Msg}
use Rattle.strm_msg.specs.declared.kind.MsgKind.{MsgKind}
use Rattle.strm_msg.specs.declared.kind.MsgKind.TheVariants.{MData, MProto, MIoctl, MFlush}
use Rattle.strm_msg.specs.declared.words.Side.{Side}
use Rattle.strm_msg.specs.declared.words.Side.TheVariants.{Rd, Wr}
use Rattle.strm_module.specs.Bytes.{rest_len}
use Rattle.strm_module.specs.Kinds.{Action, AnswersStay, passed_on}
use Rattle.strm_module.specs.Builtin.{line_splits, table_action, crnl_action, line_action, count_action, band_action, tee_action, mute_action, split_action, ordinary_action, flushed_kind, builtin_acts, builtin_answers, builtin}
use Rattle.strm_module.specs.declared.kind.Kind.{Kind}
use Rattle.strm_module.specs.declared.kind.Kind.TheVariants.{Pass, Table, CrNl, Line, Count, Band, Tee, Mute, Split}
use Rattle.strm_module.specs.declared.kind.TheConstants.{MOST_KEPT}

-- a kind that answers on the sides on which another does
abbrev Stays : Kind → Kind → Type 0
Stays old new = (other : Side) → builtin_answers new other ≡ builtin_answers old other

kind_if_stays : (b : Bool) (old x y : Kind) → Stays old x → Stays old y → Stays old (cond b x y)
kind_if_stays true old x y p q = p
kind_if_stays false old x y p q = q

if_stays : (b : Bool) (old : Kind) (x y : Action Kind) → Stays old x.kind → Stays old y.kind → Stays old (cond b x y).kind
if_stays true old x y p q = p
if_stays false old x y p q = q

table_stays : (table : List ℕ) (side : Side) (kind : MsgKind) (m : Msg) → Stays (Table table) (table_action table side kind m).kind
table_stays table Rd kind m = λ other. refl
table_stays table Wr (MIoctl id cmd) m = if_stays (cmd == 3) (Table table) _ _ (λ other. refl) (λ other. refl)
table_stays table Wr kind m = λ other. refl

crnl_stays : (side : Side) (kind : MsgKind) (m : Msg) → Stays CrNl (crnl_action side kind m).kind
crnl_stays Rd MData m = λ other. refl
crnl_stays Wr MData m = λ other. refl
crnl_stays Rd kind m = λ other. refl
crnl_stays Wr kind m = λ other. refl

splits_stay : (partial bytes : List ℕ) → Stays (Line partial) (line_splits bytes).kind
splits_stay partial bytes = if_stays (nat_lt MOST_KEPT (rest_len bytes)) (Line partial) _ _ (λ other. refl) (λ other. refl)

line_stays : (partial : List ℕ) (side : Side) (kind : MsgKind) (m : Msg) → Stays (Line partial) (line_action partial side kind m).kind
line_stays partial Rd MData m =
    if_stays (m.band == 0) (Line partial) _ _ (splits_stay partial (partial ++ unwrap_or m.dat [])) (λ other. refl)
line_stays partial Rd kind m = λ other. refl
line_stays partial Wr kind m = λ other. refl

count_stays : (n : ℕ) (side : Side) (kind : MsgKind) (m : Msg) → Stays (Count n) (count_action n side kind m).kind
count_stays n Rd kind m = λ other. refl
count_stays n Wr (MIoctl id cmd) m =
    if_stays (cmd == 1) (Count n) _ _ (λ other. refl) (if_stays (cmd == 2) (Count n) _ _ (λ other. refl) (λ other. refl))
count_stays n Wr kind m = λ other. refl

band_stays : (b : ℕ) (side : Side) (kind : MsgKind) (m : Msg) → Stays (Band b) (band_action b side kind m).kind
band_stays b Rd kind m = λ other. refl
band_stays b Wr MData m = λ other. refl
band_stays b Wr MProto m = λ other. refl
band_stays b Wr kind m = λ other. refl

tee_stays : (side : Side) (kind : MsgKind) (m : Msg) → Stays Tee (tee_action side kind m).kind
tee_stays Rd kind m = λ other. refl
tee_stays Wr MData m = λ other. refl
tee_stays Wr kind m = λ other. refl

mute_stays : (side : Side) (kind : MsgKind) (m : Msg) → Stays Mute (mute_action side kind m).kind
mute_stays Rd kind m = λ other. refl
mute_stays Wr MData m = λ other. refl
mute_stays Wr kind m = λ other. refl

split_stays : (n : ℕ) (side : Side) (kind : MsgKind) (m : Msg) → Stays (Split n) (split_action n side kind m).kind
split_stays n Rd kind m = λ other. refl
split_stays n Wr MData m =
    if_stays (nat_lt n (length (unwrap_or m.dat []))) (Split n) _ _ (λ other. refl) (λ other. refl)
split_stays n Wr kind m = λ other. refl

ordinary_stays : (kind : Kind) (side : Side) (m : Msg) → Stays kind (ordinary_action kind side m).kind
ordinary_stays Pass side m = λ other. refl
ordinary_stays (Table table) side m = table_stays table side m.kind m
ordinary_stays CrNl side m = crnl_stays side m.kind m
ordinary_stays (Line partial) side m = line_stays partial side m.kind m
ordinary_stays (Count n) side m = count_stays n side m.kind m
ordinary_stays (Band b) side m = band_stays b side m.kind m
ordinary_stays Tee side m = tee_stays side m.kind m
ordinary_stays Mute side m = mute_stays side m.kind m
ordinary_stays (Split n) side m = split_stays n side m.kind m

-- what a flush empties is a line discipline still
flushed_stays : (kind : Kind) (by : MsgKind) → Stays kind (flushed_kind kind by)
flushed_stays (Line partial) (MFlush true w None) = λ other. refl
flushed_stays (Line partial) (MFlush true w (Some band)) =
    kind_if_stays (band == 0) (Line partial) _ _ (λ other. refl) (λ other. refl)
flushed_stays (Line partial) (MFlush false w band) = λ other. refl
flushed_stays (Line partial) by = λ other. refl
flushed_stays kind by = λ other. refl

acts_stay : (kind : Kind) (side : Side) (m : Msg) → Stays kind (builtin_acts kind side m).kind
acts_stay kind side m =
    if_stays (is_high m.kind) kind (passed_on (flushed_kind kind m.kind) side m) (ordinary_action kind side m) (flushed_stays kind m.kind) (ordinary_stays kind side m)

pub builtin_stays : AnswersStay builtin
builtin_stays = record { acts = λ kind side other m. acts_stay kind side m other; own = λ kind side other. refl; expire = λ kind ticks other. refl }
