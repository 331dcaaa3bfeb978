-- What a module makes of a calm message is calm, and sets no more options: for kinds of any calm meaning, and
-- for those built in.
use Rattle.std.proofs.Common.{◌≡◌, ◌≤◌, ◌==◌, ◌&&◌, ℕ, Bool, true, false, cond, nat_lt, None, List, [], ◌∷◌, ◌++◌, length, take, drop, option_map, unwrap_or, refl, ap, arith}
use Rattle.std.proofs.lemmas.List.Sums.{sum_by-cons}
use Rattle.std.proofs.lemmas.Bool.{and_from}
use Rattle.strm_msg.specs.Kind.{is_high}
use Rattle.strm_msg.specs.Message.{Msg, Part, part_len, ack_msg, data_msg}
use Rattle.strm_msg.specs.declared.kind.MsgKind.{MsgKind}
use Rattle.strm_msg.specs.declared.kind.MsgKind.TheVariants.{MData, MProto, MIoctl, MFlush, MError}
use Rattle.strm_msg.specs.declared.words.Side.{Side}
use Rattle.strm_msg.specs.declared.words.Side.TheVariants.{Rd, Wr}
use Rattle.strm_module.specs.Bytes.{mapped, with_cr, without_cr, rest_len, whole_lines}
use Rattle.strm_module.specs.Calm.{is_calm, are_calm, puts_calm, options_by, options_of, options_sent, puts_options, IsCalm}
use Rattle.strm_module.specs.Builtin.{line_splits, table_action, crnl_action, line_action, count_action, band_action, tee_action, mute_action, split_action, ordinary_action, builtin_acts, builtin_answers, builtin}
use Rattle.strm_module.specs.Kinds.{OutList, Action, Acts, Meaning, serving}
use Rattle.strm_module.specs.Module.{serve_of, put_of, is_queued}
use Rattle.strm_module.specs.declared.kind.Kind.{Kind}
use Rattle.strm_module.specs.declared.kind.Kind.TheVariants.{Pass, Table, CrNl, Line, Count, Band, Tee, Mute, Split}
use Rattle.strm_module.specs.declared.kind.TheConstants.{MOST_KEPT}
use Rattle.strm_module.specs.declared.shape.Shape.{Shape}
use Rattle.strm_module.proofs.ProcedureLemmas.{put_if}

-- no ordinary message flushes
pub ordinary_calm : (kind : MsgKind) → is_high kind ≡ false → is_calm kind ≡ true
ordinary_calm (MFlush r w band) e = cc
ordinary_calm (MError rd wr) e = cc
ordinary_calm kind e = refl

-- what a service sends of a calm message is calm
pub serve_calm : {K : Type 0} (means : Meaning K) (s : Shape K) (side : Side) (m : Msg) → IsCalm means → is_calm m.kind ≡ true → are_calm (serve_of means s side m).outs ≡ true
serve_calm means s side m calm h = calm.makes.calm s.kind side m h

-- and what a put sends at once
pub put_calm : {K : Type 0} (means : Meaning K) (s : Shape K) (side : Side) (m : Msg) → IsCalm means → is_calm m.kind ≡ true → puts_calm (put_of means s side m).answer ≡ true
put_calm means s side m calm h =
    elim (is_queued s side m) as (λ b. puts_calm (put_if means s side m b).answer ≡ true) [
      | true ↦ refl
      | false ↦ serve_calm means s side m calm h
    ]

-- and neither sets more options
pub serve_keeps : {K : Type 0} (means : Meaning K) (s : Shape K) (side : Side) (m : Msg) (b : Bool) → IsCalm means → options_sent b (serve_of means s side m).outs ≤ options_of b m
serve_keeps means s side m b calm = calm.makes.options b s.kind side m

pub put_keeps : {K : Type 0} (means : Meaning K) (s : Shape K) (side : Side) (m : Msg) (b : Bool) → IsCalm means → puts_options b (put_of means s side m).answer ≤ options_of b m
put_keeps means s side m b calm =
    elim (is_queued s side m) as (λ c. puts_options b (put_if means s side m c).answer ≤ options_of b m) [
      | true ↦ omega arith
      | false ↦ serve_keeps means s side m b calm
    ]

abbrev AreCalm : OutList → Type 0
AreCalm outs = are_calm outs ≡ true

two_calm : (calm : Bool) → calm ≡ true → (calm && (calm && true)) ≡ true
two_calm true h = refl
two_calm false h = h

if_calm : (b : Bool) (x y : OutList) → AreCalm x → AreCalm y → AreCalm (cond b x y)
if_calm true x y p q = p
if_calm false x y p q = q

action_if_calm : (b : Bool) (x y : Action Kind) → AreCalm x.outs → AreCalm y.outs → AreCalm (cond b x y).outs
action_if_calm true x y p q = p
action_if_calm false x y p q = q

table_calm : (table : List ℕ) (side : Side) (kind : MsgKind) (m : Msg) → is_calm m.kind ≡ true → AreCalm (table_action table side kind m).outs
table_calm table Rd kind m h = and_from (is_calm m.kind) true h refl
table_calm table Wr (MIoctl id cmd) m h =
    action_if_calm (cmd == 3) _ _ refl (and_from (is_calm m.kind) true h refl)
table_calm table Wr kind m h = and_from (is_calm m.kind) true h refl

crnl_calm : (side : Side) (kind : MsgKind) (m : Msg) → is_calm m.kind ≡ true → AreCalm (crnl_action side kind m).outs
crnl_calm Rd MData m h = and_from (is_calm m.kind) true h refl
crnl_calm Wr MData m h = and_from (is_calm m.kind) true h refl
crnl_calm Rd kind m h = and_from (is_calm m.kind) true h refl
crnl_calm Wr kind m h = and_from (is_calm m.kind) true h refl

line_splits_calm : (bytes : List ℕ) → AreCalm (line_splits bytes).outs
line_splits_calm bytes =
    action_if_calm (nat_lt MOST_KEPT (rest_len bytes)) _ _ refl (if_calm (length (whole_lines bytes) == 0) _ _ refl refl)

line_calm : (partial : List ℕ) (side : Side) (kind : MsgKind) (m : Msg) → is_calm m.kind ≡ true → AreCalm (line_action partial side kind m).outs
line_calm partial Rd MData m h =
    action_if_calm (m.band == 0) _ _ (line_splits_calm (partial ++ unwrap_or m.dat [])) (and_from (is_calm m.kind) true h refl)
line_calm partial Rd kind m h = and_from (is_calm m.kind) true h refl
line_calm partial Wr kind m h = and_from (is_calm m.kind) true h refl

count_calm : (n : ℕ) (side : Side) (kind : MsgKind) (m : Msg) → is_calm m.kind ≡ true → AreCalm (count_action n side kind m).outs
count_calm n Rd kind m h = and_from (is_calm m.kind) true h refl
count_calm n Wr (MIoctl id cmd) m h =
    action_if_calm (cmd == 1) _ _ refl (action_if_calm (cmd == 2) _ _ refl (and_from (is_calm m.kind) true h refl))
count_calm n Wr kind m h = and_from (is_calm m.kind) true h refl

band_calm : (b : ℕ) (side : Side) (kind : MsgKind) (m : Msg) → is_calm m.kind ≡ true → AreCalm (band_action b side kind m).outs
band_calm b Rd kind m h = and_from (is_calm m.kind) true h refl
band_calm b Wr MData m h = and_from (is_calm m.kind) true h refl
band_calm b Wr MProto m h = and_from (is_calm m.kind) true h refl
band_calm b Wr kind m h = and_from (is_calm m.kind) true h refl

tee_calm : (side : Side) (kind : MsgKind) (m : Msg) → is_calm m.kind ≡ true → AreCalm (tee_action side kind m).outs
tee_calm Rd kind m h = and_from (is_calm m.kind) true h refl
tee_calm Wr MData m h = two_calm (is_calm m.kind) h
tee_calm Wr kind m h = and_from (is_calm m.kind) true h refl

mute_calm : (side : Side) (kind : MsgKind) (m : Msg) → is_calm m.kind ≡ true → AreCalm (mute_action side kind m).outs
mute_calm Rd kind m h = and_from (is_calm m.kind) true h refl
mute_calm Wr MData m h = refl
mute_calm Wr kind m h = and_from (is_calm m.kind) true h refl

split_calm : (n : ℕ) (side : Side) (kind : MsgKind) (m : Msg) → is_calm m.kind ≡ true → AreCalm (split_action n side kind m).outs
split_calm n Rd kind m h = and_from (is_calm m.kind) true h refl
split_calm n Wr MData m h = action_if_calm (nat_lt n (length (unwrap_or m.dat []))) _ _ refl (and_from (is_calm m.kind) true h refl)
split_calm n Wr kind m h = and_from (is_calm m.kind) true h refl

acts_calm : (kind : Kind) (side : Side) (m : Msg) → is_calm m.kind ≡ true → AreCalm (ordinary_action kind side m).outs
acts_calm Pass side m h = and_from (is_calm m.kind) true h refl
acts_calm (Table table) side m h = table_calm table side m.kind m h
acts_calm CrNl side m h = crnl_calm side m.kind m h
acts_calm (Line partial) side m h = line_calm partial side m.kind m h
acts_calm (Count n) side m h = count_calm n side m.kind m h
acts_calm (Band b) side m h = band_calm b side m.kind m h
acts_calm Tee side m h = tee_calm side m.kind m h
acts_calm Mute side m h = mute_calm side m.kind m h
acts_calm (Split n) side m h = split_calm n side m.kind m h

-- what leaves sets no more options than what came
abbrev Keeps : Bool → Msg → OutList → Type 0
Keeps answered m outs = options_sent answered outs ≤ options_of answered m

none_keeps : (b : Bool) (m : Msg) → Keeps b m []
none_keeps b m = omega arith

pub one_keeps : (b : Bool) (side : Side) (m x : Msg) → options_of b x ≤ options_of b m → Keeps b m ((side, x) ∷ [])
one_keeps b side m x h = let e = sum_by-cons (λ (out : Side × Msg). options_of b out.1) (side, x) [] in omega (arith, e, h)

pub same_keeps : (b : Bool) (side : Side) (m : Msg) → Keeps b m ((side, m) ∷ [])
same_keeps b side m = one_keeps b side m m (omega arith)

pub other_keeps : (b : Bool) (side : Side) (m x : Msg) → options_of b x ≡ 0 → Keeps b m ((side, x) ∷ [])
other_keeps b side m x h = one_keeps b side m x (omega (arith, h))

two_keep : (b : Bool) (m : Msg) → options_of b m ≡ 0 → Keeps b m ((Rd, m) ∷ ((Wr, m) ∷ []))
two_keep b m h =
    let f = λ (out : Side × Msg). options_of b out.1 in
    let e = sum_by-cons f (Rd, m) ((Wr, m) ∷ []) in
    let k = sum_by-cons f (Wr, m) [] in
    omega (arith, e, k, h)

if_keeps : (b c : Bool) (m : Msg) (x y : OutList) → Keeps b m x → Keeps b m y → Keeps b m (cond c x y)
if_keeps b true m x y p q = p
if_keeps b false m x y p q = q

action_if_keeps : (b c : Bool) (m : Msg) (x y : Action Kind) → Keeps b m x.outs → Keeps b m y.outs → Keeps b m (cond c x y).outs
action_if_keeps b true m x y p q = p
action_if_keeps b false m x y p q = q

-- data set no options, and nor do protocol messages
pub data_sets_none : (b : Bool) (m : Msg) (dat : Part) → m.kind ≡ MData → options_by b m.kind dat ≡ 0
data_sets_none b m dat at = ap (λ kind. options_by b kind dat) at

table_keeps : (b : Bool) (table : List ℕ) (side : Side) (kind : MsgKind) (m : Msg) → m.kind ≡ kind → Keeps b m (table_action table side kind m).outs
table_keeps b table Rd kind m at = same_keeps b Rd m
table_keeps b table Wr MData m at = other_keeps b Wr m (record m { dat = option_map (mapped table) m.dat }) (data_sets_none b m (option_map (mapped table) m.dat) at)
table_keeps b table Wr (MIoctl id cmd) m at =
    action_if_keeps b (cmd == 3) m _ _ (other_keeps b Rd m (ack_msg id (part_len m.dat) (option_map (mapped table) m.dat)) refl) (same_keeps b Wr m)
table_keeps b table Wr kind m at = same_keeps b Wr m

crnl_keeps : (b : Bool) (side : Side) (kind : MsgKind) (m : Msg) → m.kind ≡ kind → Keeps b m (crnl_action side kind m).outs
crnl_keeps b Rd MData m at = other_keeps b Rd m (record m { dat = option_map without_cr m.dat }) (data_sets_none b m (option_map without_cr m.dat) at)
crnl_keeps b Wr MData m at = other_keeps b Wr m (record m { dat = option_map with_cr m.dat }) (data_sets_none b m (option_map with_cr m.dat) at)
crnl_keeps b Rd kind m at = same_keeps b Rd m
crnl_keeps b Wr kind m at = same_keeps b Wr m

lines_keep : (b : Bool) (m : Msg) (bytes : List ℕ) → Keeps b m (line_splits bytes).outs
lines_keep b m bytes =
    action_if_keeps b (nat_lt MOST_KEPT (rest_len bytes)) m _ _ (other_keeps b Rd m (data_msg 0 bytes) refl)
    (if_keeps b (length (whole_lines bytes) == 0) m _ _ (none_keeps b m) (other_keeps b Rd m (data_msg 0 (whole_lines bytes)) refl))

line_keeps : (b : Bool) (partial : List ℕ) (side : Side) (kind : MsgKind) (m : Msg) → Keeps b m (line_action partial side kind m).outs
line_keeps b partial Rd MData m =
    action_if_keeps b (m.band == 0) m _ _ (lines_keep b m (partial ++ unwrap_or m.dat [])) (same_keeps b Rd m)
line_keeps b partial Rd kind m = same_keeps b Rd m
line_keeps b partial Wr kind m = same_keeps b Wr m

count_keeps : (b : Bool) (n : ℕ) (side : Side) (kind : MsgKind) (m : Msg) → Keeps b m (count_action n side kind m).outs
count_keeps b n Rd kind m = same_keeps b Rd m
count_keeps b n Wr (MIoctl id cmd) m =
    action_if_keeps b (cmd == 1) m _ _ (other_keeps b Rd m (ack_msg id n None) refl)
    (action_if_keeps b (cmd == 2) m _ _ (other_keeps b Rd m (ack_msg id n None) refl) (same_keeps b Wr m))
count_keeps b n Wr kind m = same_keeps b Wr m

band_keeps : (b : Bool) (band : ℕ) (side : Side) (kind : MsgKind) (m : Msg) → Keeps b m (band_action band side kind m).outs
band_keeps b band Rd kind m = same_keeps b Rd m
band_keeps b band Wr MData m = one_keeps b Wr m (record m { band = band }) (omega arith)
band_keeps b band Wr MProto m = one_keeps b Wr m (record m { band = band }) (omega arith)
band_keeps b band Wr kind m = same_keeps b Wr m

tee_keeps : (b : Bool) (side : Side) (kind : MsgKind) (m : Msg) → m.kind ≡ kind → Keeps b m (tee_action side kind m).outs
tee_keeps b Rd kind m at = same_keeps b Rd m
tee_keeps b Wr MData m at = two_keep b m (data_sets_none b m m.dat at)
tee_keeps b Wr kind m at = same_keeps b Wr m

mute_keeps : (b : Bool) (side : Side) (kind : MsgKind) (m : Msg) → Keeps b m (mute_action side kind m).outs
mute_keeps b Rd kind m = same_keeps b Rd m
mute_keeps b Wr MData m = none_keeps b m
mute_keeps b Wr kind m = same_keeps b Wr m

-- two messages of data set none
data_keep : (b : Bool) (m : Msg) (band : ℕ) (first rest : List ℕ) → Keeps b m ((Wr, data_msg band first) ∷ ((Wr, data_msg band rest) ∷ []))
data_keep b m band first rest =
    let f = λ (out : Side × Msg). options_of b out.1 in
    let e = sum_by-cons f (Wr, data_msg band first) ((Wr, data_msg band rest) ∷ []) in
    let k = sum_by-cons f (Wr, data_msg band rest) [] in
    omega (arith, e, k)

split_keeps : (b : Bool) (n : ℕ) (side : Side) (kind : MsgKind) (m : Msg) → Keeps b m (split_action n side kind m).outs
split_keeps b n Rd kind m = same_keeps b Rd m
split_keeps b n Wr MData m =
    let bytes = unwrap_or m.dat [] in
    action_if_keeps b (nat_lt n (length bytes)) m _ _ (data_keep b m m.band (take n bytes) (drop n bytes)) (same_keeps b Wr m)
split_keeps b n Wr kind m = same_keeps b Wr m

acts_keep : (b : Bool) (kind : Kind) (side : Side) (m : Msg) → Keeps b m (ordinary_action kind side m).outs
acts_keep b Pass side m = same_keeps b side m
acts_keep b (Table table) side m = table_keeps b table side m.kind m refl
acts_keep b CrNl side m = crnl_keeps b side m.kind m refl
acts_keep b (Line partial) side m = line_keeps b partial side m.kind m
acts_keep b (Count n) side m = count_keeps b n side m.kind m
acts_keep b (Band band) side m = band_keeps b band side m.kind m
acts_keep b Tee side m = tee_keeps b side m.kind m refl
acts_keep b Mute side m = mute_keeps b side m.kind m
acts_keep b (Split n) side m = split_keeps b n side m.kind m

-- kinds that always serve are calm where what they make of a calm message is
pub serving_calm : {K : Type 0} (acts : Acts K) (answers : K → Side → Bool) → ((kind : K) (side : Side) (m : Msg) → is_calm m.kind ≡ true → are_calm (acts kind side m).outs ≡ true) → ((b : Bool) (kind : K) (side : Side) (m : Msg) → options_sent b (acts kind side m).outs ≤ options_of b m) → IsCalm (serving acts answers)
serving_calm acts answers calm options =
    record {
      makes = record { calm = calm; options = options; own = λ kind side. refl; own_options = λ b kind side. omega arith };
      steady = record { acts = λ kind side other m. refl; own = λ kind side other. refl };
    }

-- what the built-in kinds make of a calm message is calm, and sets no more options
pub builtin_calm : IsCalm builtin
builtin_calm =
    serving_calm builtin_acts builtin_answers
    (λ kind side m h. action_if_calm (is_high m.kind) _ _ (and_from (is_calm m.kind) true h refl) (acts_calm kind side m h))
    (λ b kind side m. action_if_keeps b (is_high m.kind) m _ _ (same_keeps b side m) (acts_keep b kind side m))
