-- Worked examples of what modules do, each computed from the definitions alone.
use Rattle.std.proofs.Common.{◌≡◌, ℕ, true, false, Option, Some, None, List, [], ◌∷◌, replicate, refl}
use Rattle.strm_msg.specs.Message.{Msg, bare, data_msg, proto_msg, ioctl_msg, ack_msg}
use Rattle.strm_msg.specs.declared.kind.MsgKind.TheVariants.{MFlush}
use Rattle.strm_msg.specs.declared.words.Side.{Side}
use Rattle.strm_msg.specs.declared.words.Side.TheVariants.{Rd, Wr}
use Rattle.strm_msg.specs.Marks.{WaterMarks}
use Rattle.strm_module.specs.Kinds.{OutList}
use Rattle.strm_module.specs.Shape.{make_fault, split_fault}
use Rattle.strm_module.specs.Builtin.{builtin}
use Rattle.strm_module.specs.Module.{Taken, put_of, serve_of}
use Rattle.strm_module.specs.declared.shape.Shape.{Shape}
use Rattle.strm_module.specs.declared.kind.Kind.{Kind}
use Rattle.strm_module.specs.declared.kind.Kind.TheVariants.{Table, CrNl, Line, Count, Band, Tee, Mute, Split}
use Rattle.strm_module.specs.declared.shape.MakeFault.TheVariants.{Name, Marks}
use Rattle.strm_module.specs.declared.shape.MakeFault.TheVariants as MakeFaults
use Rattle.strm_module.specs.declared.outs.Put.TheVariants.{Queue, Sent}

-- a module named m with these marks on the write side
abbrev module_with : Option WaterMarks → Kind → Shape Kind
module_with wr kind =
    record { serial = 1; name = record { items = 109 ∷ [] }; rd = None; wr = wr; noenable = false; kind = kind }

abbrev without_queue : Kind → Shape Kind
without_queue = module_with None

abbrev with_queue : Kind → Shape Kind
with_queue = module_with (Some (record { hi = 5; lo = 4 }))

-- what a module without queues does when a message comes
abbrev gets : Kind → Side → Msg → Taken Kind
gets kind side m = put_of builtin (without_queue kind) side m

-- the kind afterwards, and what leaves
abbrev sends_all : Kind → OutList → Taken Kind
sends_all kind outs = record { shape = without_queue kind; answer = Sent (record { items = outs }) }

abbrev sends : Kind → Side → Msg → Taken Kind
sends kind side m = sends_all kind ((side, m) ∷ [])

-- data of one byte x
abbrev x : Msg
x = data_msg 0 (120 ∷ [])

count_counts_at_once : gets (Count 0) Wr x ≡ sends (Count 1) Wr x
count_counts_at_once = refl

count_is_asked : gets (Count 1) Wr (ioctl_msg 7 1 None) ≡ sends (Count 1) Rd (ack_msg 7 1 None)
count_is_asked = refl

count_is_set_to_zero : gets (Count 5) Wr (ioctl_msg 7 2 None) ≡ sends (Count 0) Rd (ack_msg 7 5 None)
count_is_set_to_zero = refl

count_stays_at_the_top : gets (Count 18446744073709551615) Wr x ≡ sends (Count 18446744073709551615) Wr x
count_stays_at_the_top = refl

-- with a queue it counts what it serves, and not what it queues
count_queues : put_of builtin (with_queue (Count 0)) Wr x ≡ record { shape = with_queue (Count 0); answer = Queue x }
count_queues = refl

count_serves :
    serve_of builtin (with_queue (Count 0)) Wr x ≡ record { shape = with_queue (Count 1); outs = (Wr, x) ∷ [] }
count_serves = refl

-- ab waits, and c LF d ends that line
line_waits : gets (Line []) Rd (data_msg 0 (97 ∷ 98 ∷ [])) ≡ sends_all (Line (97 ∷ 98 ∷ [])) []
line_waits = refl

line_ends :
    gets (Line (97 ∷ 98 ∷ [])) Rd (data_msg 0 (99 ∷ 10 ∷ 100 ∷ []))
    ≡ sends (Line (100 ∷ [])) Rd (data_msg 0 (97 ∷ 98 ∷ 99 ∷ 10 ∷ []))
line_ends = refl

two_lines_end_at_once :
    gets (Line []) Rd (data_msg 0 (97 ∷ 10 ∷ 98 ∷ 10 ∷ []))
    ≡ sends (Line []) Rd (data_msg 0 (97 ∷ 10 ∷ 98 ∷ 10 ∷ []))
two_lines_end_at_once = refl

line_passes_another_band :
    gets (Line (97 ∷ [])) Rd (data_msg 3 (98 ∷ 10 ∷ [])) ≡ sends (Line (97 ∷ [])) Rd (data_msg 3 (98 ∷ 10 ∷ []))
line_passes_another_band = refl

-- what a flush does to a line discipline that keeps a
abbrev leaves : List ℕ → Msg → Type 0
leaves kept m = gets (Line (97 ∷ [])) Wr m ≡ sends (Line kept) Wr m

flush_of_the_read_side : leaves [] (bare (MFlush true false None))
flush_of_the_read_side = refl

flush_of_band_0 : leaves [] (bare (MFlush true true (Some 0)))
flush_of_band_0 = refl

flush_of_band_1 : leaves (97 ∷ []) (bare (MFlush true true (Some 1)))
flush_of_band_1 = refl

flush_of_the_write_side : leaves (97 ∷ []) (bare (MFlush false true None))
flush_of_the_write_side = refl

crnl_adds_cr : gets CrNl Wr (data_msg 0 (97 ∷ 10 ∷ 98 ∷ [])) ≡ sends CrNl Wr (data_msg 0 (97 ∷ 13 ∷ 10 ∷ 98 ∷ []))
crnl_adds_cr = refl

-- the CR at the end stays
crnl_removes_cr :
    gets CrNl Rd (data_msg 2 (97 ∷ 13 ∷ 10 ∷ 98 ∷ 13 ∷ [])) ≡ sends CrNl Rd (data_msg 2 (97 ∷ 10 ∷ 98 ∷ 13 ∷ []))
crnl_removes_cr = refl

tee_copies_first : gets Tee Wr x ≡ sends_all Tee ((Rd, x) ∷ (Wr, x) ∷ [])
tee_copies_first = refl

mute_drops_data : gets Mute Wr x ≡ sends_all Mute []
mute_drops_data = refl

mute_passes_protocol : gets Mute Wr (proto_msg 1 (99 ∷ []) None) ≡ sends Mute Wr (proto_msg 1 (99 ∷ []) None)
mute_passes_protocol = refl

-- abcde in two, of their band; a message that is short enough stays one, of the same number of bytes too
split_in_two : gets (Split 2) Wr (data_msg 3 (97 ∷ 98 ∷ 99 ∷ 100 ∷ 101 ∷ [])) ≡ sends_all (Split 2) ((Wr, data_msg 3 (97 ∷ 98 ∷ [])) ∷ (Wr, data_msg 3 (99 ∷ 100 ∷ 101 ∷ [])) ∷ [])
split_in_two = refl

split_of_as_many : gets (Split 2) Wr (data_msg 3 (97 ∷ 98 ∷ [])) ≡ sends (Split 2) Wr (data_msg 3 (97 ∷ 98 ∷ []))
split_of_as_many = refl

split_goes_down_alone : gets (Split 1) Rd (data_msg 0 (97 ∷ 98 ∷ [])) ≡ sends (Split 1) Rd (data_msg 0 (97 ∷ 98 ∷ []))
split_goes_down_alone = refl

band_is_given : gets (Band 7) Wr x ≡ sends (Band 7) Wr (data_msg 7 (120 ∷ []))
band_is_given = refl

-- a table of three entries, which are all that these bytes look at
abbrev table : Kind
table = Table (5 ∷ 6 ∷ 7 ∷ [])

table_maps_data : gets table Wr (data_msg 4 (2 ∷ 0 ∷ [])) ≡ sends table Wr (data_msg 4 (7 ∷ 5 ∷ []))
table_maps_data = refl

table_is_asked :
    gets table Wr (ioctl_msg 9 3 (Some (1 ∷ 1 ∷ []))) ≡ sends table Rd (ack_msg 9 2 (Some (6 ∷ 6 ∷ [])))
table_is_asked = refl

table_is_asked_without_data : gets table Wr (ioctl_msg 9 3 None) ≡ sends table Rd (ack_msg 9 0 None)
table_is_asked_without_data = refl

-- nine bytes and marks 4/4: the name is judged first
name_before_marks : make_fault (replicate 9 97) (Some (4, 4)) None ≡ Some Name
name_before_marks = refl

marks_not_apart : make_fault (97 ∷ []) None (Some (4, 4)) ≡ Some Marks
marks_not_apart = refl

marks_before_bytes : split_fault (97 ∷ []) None (Some (4, 4)) 0 ≡ Some Marks
marks_before_bytes = refl

no_bytes : split_fault (97 ∷ []) None None 0 ≡ Some MakeFaults.Split
no_bytes = refl

too_many_bytes : split_fault (97 ∷ []) None None 4097 ≡ Some MakeFaults.Split
too_many_bytes = refl

no_fault : make_fault (97 ∷ 95 ∷ 57 ∷ []) (Some (5, 4)) None ≡ None
no_fault = refl
