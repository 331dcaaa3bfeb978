-- The meaning of the built-in kinds: the messages that each makes of one that it doesn't queue (Programmer's
-- Guide: STREAMS, "Modules" and "Message Types").
use Rattle.std.specs.Prelude.{ℕ, ◌==◌, nat_lt, Bool, true, false, Some, None, List, [], ◌∷◌, ◌++◌, if◌then◌else◌, length, take, drop, option_map, unwrap_or}
use Rattle.strm_msg.specs.Count.{one_more}
use Rattle.strm_msg.specs.Kind.{is_high}
use Rattle.strm_msg.specs.Message.{Msg, part_len, data_msg}
use Rattle.strm_msg.specs.declared.kind.MsgKind.{MsgKind}
use Rattle.strm_msg.specs.declared.kind.MsgKind.TheVariants.{MData, MProto, MIoctl, MFlush}
use Rattle.strm_msg.specs.declared.words.Side.{Side}
use Rattle.strm_msg.specs.declared.words.Side.TheVariants.{Rd, Wr}
use Rattle.strm_module.specs.Kinds.{OutList, Action, Acts, Meaning, serving, kept, passed_on, replied, answered}
use Rattle.strm_module.specs.declared.kind.TheConstants.{MOST_KEPT}
use Rattle.strm_module.specs.Bytes.{mapped, with_cr, without_cr, rest_len, whole_lines, rest_of_line}
use Rattle.strm_module.specs.declared.kind.Kind.{Kind}
use Rattle.strm_module.specs.declared.kind.Kind.TheVariants.{Pass, Table, CrNl, Line, Count, Band, Tee, Mute, Split}

-- data on its way down goes through the table, and ioctl 3 answers with its own data put through it
abbrev pub table_action : List ℕ → Side → MsgKind → Msg → Action Kind
table_action table Wr MData m =
    passed_on (Table table) Wr (record m { dat = option_map (mapped table) m.dat })
table_action table Wr (MIoctl id cmd) m =
    if cmd == 3 then answered (Table table) id (part_len m.dat) (option_map (mapped table) m.dat)
    else passed_on (Table table) Wr m
table_action table side kind m = passed_on (Table table) side m

-- LF becomes CR LF on the way down, and CR LF becomes LF on the way up, message by message
abbrev pub crnl_action : Side → MsgKind → Msg → Action Kind
crnl_action Wr MData m = passed_on CrNl Wr (record m { dat = option_map with_cr m.dat })
crnl_action Rd MData m = passed_on CrNl Rd (record m { dat = option_map without_cr m.dat })
crnl_action side kind m = passed_on CrNl side m

-- data of band 0 going up, and nothing where there is none
abbrev pub lines_up : List ℕ → OutList
lines_up bytes = if length bytes == 0 then [] else (Rd, data_msg 0 bytes) ∷ []

-- the action of a line discipline on all that it has: whole lines go up and the rest is kept, but with a rest
-- of more than is ever kept all goes up
abbrev pub line_splits : List ℕ → Action Kind
line_splits bytes =
    if nat_lt MOST_KEPT (rest_len bytes) then
    replied (Line []) (data_msg 0 bytes)
    else record { kind = Line (rest_of_line bytes); outs = lines_up (whole_lines bytes) }

-- data of band 0 on its way up is put behind the bytes that were kept
abbrev pub line_action : List ℕ → Side → MsgKind → Msg → Action Kind
line_action partial Rd MData m =
    if m.band == 0 then line_splits (partial ++ unwrap_or m.dat [])
    else passed_on (Line partial) Rd m
line_action partial side kind m = passed_on (Line partial) side m

-- data on its way down is counted, ioctl 1 asks for the count, and ioctl 2 asks and sets it to 0
abbrev pub count_action : ℕ → Side → MsgKind → Msg → Action Kind
count_action n Wr MData m = passed_on (Count (one_more n)) Wr m
count_action n Wr (MIoctl id cmd) m =
    if cmd == 1 then answered (Count n) id n None
    else if cmd == 2 then answered (Count 0) id n None
    else passed_on (Count n) Wr m
count_action n side kind m = passed_on (Count n) side m

-- data and protocol messages on their way down are given a band
abbrev pub band_action : ℕ → Side → MsgKind → Msg → Action Kind
band_action b Wr MData m = passed_on (Band b) Wr (record m { band = b })
band_action b Wr MProto m = passed_on (Band b) Wr (record m { band = b })
band_action b side kind m = passed_on (Band b) side m

-- data on its way down is sent up too: the copy first
abbrev pub tee_action : Side → MsgKind → Msg → Action Kind
tee_action Wr MData m = record { kind = Tee; outs = (Rd, m) ∷ ((Wr, m) ∷ []) }
tee_action side kind m = passed_on Tee side m

-- data on its way down is dropped
abbrev pub mute_action : Side → MsgKind → Msg → Action Kind
mute_action Wr MData m = kept Mute
mute_action side kind m = passed_on Mute side m

-- data of more than n bytes on its way down goes on in two: its first n bytes, then the rest, of the same
-- band
abbrev pub split_action : ℕ → Side → MsgKind → Msg → Action Kind
split_action n Wr MData m =
    let bytes = unwrap_or m.dat [] in
    if nat_lt n (length bytes) then
    record { kind = Split n; outs = (Wr, data_msg m.band (take n bytes)) ∷ ((Wr, data_msg m.band (drop n bytes)) ∷ []) }
    else passed_on (Split n) Wr m
split_action n side kind m = passed_on (Split n) side m

-- an ordinary message, by the kind of the module
abbrev pub ordinary_action : Kind → Side → Msg → Action Kind
ordinary_action Pass side m = passed_on Pass side m
ordinary_action (Table table) side m = table_action table side m.kind m
ordinary_action CrNl side m = crnl_action side m.kind m
ordinary_action (Line partial) side m = line_action partial side m.kind m
ordinary_action (Count n) side m = count_action n side m.kind m
ordinary_action (Band b) side m = band_action b side m.kind m
ordinary_action Tee side m = tee_action side m.kind m
ordinary_action Mute side m = mute_action side m.kind m
ordinary_action (Split n) side m = split_action n side m.kind m

-- a flush of the read side, of all bands or of band 0, empties the partial line of a line discipline
abbrev pub flushed_kind : Kind → MsgKind → Kind
flushed_kind (Line partial) (MFlush true w None) = Line []
flushed_kind (Line partial) (MFlush true w (Some band)) =
    if band == 0 then Line [] else Line partial
flushed_kind kind m = kind

-- the actions of the built-in kinds on any message: a high one goes on as it is, along its side
abbrev pub builtin_acts : Acts Kind
builtin_acts kind side m =
    if is_high m.kind then passed_on (flushed_kind kind m.kind) side m
    else ordinary_action kind side m

-- whether a built-in kind answers: messages that go down are answered by a tee alone, and those that come up
-- by none
abbrev pub builtin_answers : Kind → Side → Bool
builtin_answers Tee Wr = true
builtin_answers kind side = false

-- the built-in kinds always serve the messages that wait
abbrev pub builtin : Meaning Kind
builtin = serving builtin_acts builtin_answers
