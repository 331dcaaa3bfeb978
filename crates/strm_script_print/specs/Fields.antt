-- The printed fields of calls, of modules and of messages. A script is read by the same words and fields of
-- calls.
use Rattle.std.specs.Prelude.{ℕ, ◌==◌, not, Bool, true, false, if◌then◌else◌, List, [], ◌∷◌, ◌++◌, map, filter, slice_index, Option, Some, None, codes}
use Rattle.std.specs.List.{flat_map, range_with_len}
use Rattle.std.specs.Fmt.{decimal}
use Rattle.std.specs.Str.{bytes_eq}
use Rattle.strm_msg.specs.Message.{Msg}
use Rattle.strm_msg.specs.Text.{name_of}
use Rattle.strm_msg.specs.declared.errno.Errno.{Errno}
use Rattle.strm_msg.specs.declared.kind.MsgKind.{MsgKind}
use Rattle.strm_msg.specs.declared.kind.MsgKind.TheVariants.{MData, MProto, MPcproto, MIoctl, MSetopts, MIocack, MIocnak, MFlush, MHangup, MError}
use Rattle.strm_msg.specs.Marks.{WaterMarks}
use Rattle.strm_module.specs.declared.kind.Kind.{Kind}
use Rattle.strm_module.specs.declared.shape.Shape.{Shape}
use Rattle.strm_head_calls.specs.declared.request.Request.{Request}
use Rattle.strm_head_calls.specs.declared.service.ServiceCall.{ServiceCall}
use Rattle.strm_head_calls.specs.declared.service.ServiceCall.TheVariants.{Getq, Putbq, Putnext, Bcanputnext, Qsize}
use Rattle.strm_script_text.specs.Spelling.{part_text}
use Rattle.strm_script_words.specs.Words.{wanted_word, mode_word, prot_word, side_word, flush_word}
use Rattle.strm_script_words.specs.Field.{Field, Bytes, Number, Pair, Word, part_field}
use Rattle.strm_script_words.specs.Push.{kind_word}
use Rattle.strm_script_print.specs.declared.field.Field as printed
use Rattle.strm_script_words.specs.Table.{Asked, Told, Serves, Pushed}
use Rattle.strm_script_words.specs.Arrival.{message_word}
use Rattle.strm_script_words.specs.Service.{inner_word, service_verb}
use Rattle.strm_script_words.specs.declared.push.KindWord.{KindWord}
use Rattle.strm_script_words.specs.declared.arrival.MessageWord.{MessageWord}
use Rattle.strm_script_words.specs.declared.service.InnerWord.{InnerWord}
use Rattle.strm_script_words.specs.declared.verb.Verb.{Verb}

abbrev pub fields_text : Field → List ℕ
fields_text (Bytes bytes) = part_text bytes
fields_text (Number n) = decimal n
fields_text (Pair high low) = decimal high ++ 47 ∷ decimal low
fields_text (Word word) = word

-- the field that a printed field has
abbrev pub said : printed.Field → Field
said (printed.Field.Bytes bytes) = Bytes bytes.now
said (printed.Field.Number n) = Number n
said (printed.Field.Pair high low) = Pair high low
said (printed.Field.Word word) = Word word.now

-- fields, each behind a space
abbrev pub spaced : List Field → List ℕ
spaced fields = flat_map (λ field. 32 ∷ fields_text field) fields

-- ---- modules

-- the words and fields by which kinds of module are printed
pub record KindSpelling (K : Type 0) : Type 0 where
  -- the word of a kind
  pub word : K → List ℕ
  -- its fields behind the marks
  pub fields : K → List Field

abbrev pub word_of_kind : Kind → KindWord
word_of_kind Kind.Pass = KindWord.Pass
word_of_kind (Kind.Table map) = KindWord.Table
word_of_kind Kind.CrNl = KindWord.CrNl
word_of_kind (Kind.Line partial) = KindWord.Line
word_of_kind (Kind.Count n) = KindWord.Count
word_of_kind (Kind.Band b) = KindWord.Band
word_of_kind Kind.Tee = KindWord.Tee
word_of_kind Kind.Mute = KindWord.Mute
word_of_kind (Kind.Split n) = KindWord.Split

-- all bytes, ascending
unfoldable pub all_bytes : List ℕ
all_bytes = range_with_len 0 256

-- the bytes that a table changes, ascending
abbrev pub changed : List ℕ → List ℕ
changed table = filter (λ byte. not (slice_index table byte == byte)) all_bytes

-- the bytes that the table puts in their place
abbrev pub images : List ℕ → List ℕ
images table = map (slice_index table) (changed table)

-- the fields of a built-in kind behind the marks
abbrev pub own_fields : Kind → List Field
own_fields (Kind.Table table) = Bytes (changed table) ∷ Bytes (images table) ∷ []
own_fields (Kind.Band b) = Number b ∷ []
own_fields (Kind.Split n) = Number n ∷ []
own_fields kind = []

-- the built-in kinds, by the words that scripts name them by
abbrev pub builtin_spelling : KindSpelling Kind
builtin_spelling = record { word = λ kind. kind_word (word_of_kind kind); fields = own_fields }

-- the marks of a side, or `-` if the module has no queue there
abbrev pub side_field : Option WaterMarks → Field
side_field None = Word (codes "-")
side_field (Some marks) = Pair marks.hi marks.lo

-- `noenable`, where the service procedures are the program's
abbrev pub noenable_fields : Bool → List Field
noenable_fields true = Word (codes "noenable") ∷ []
noenable_fields false = []

-- KIND NAME RD WR, and the fields of the kind
abbrev pub module_fields : {K : Type 0} → KindSpelling K → Shape K → List Field
module_fields spelling shape =
    Word (spelling.word shape.kind) ∷ Word shape.name.items ∷ side_field shape.rd ∷ side_field shape.wr ∷ spelling.fields shape.kind

-- the fields of a push
abbrev pub push_fields : {K : Type 0} → KindSpelling K → Shape K → List Field
push_fields spelling shape = noenable_fields shape.noenable ++ module_fields spelling shape

-- ---- messages

-- the word of a choice, or `-` if it stays as it is
abbrev pub kept_field : {X : Type 0} → (X → List ℕ) → Option X → Field
kept_field word None = Word (codes "-")
kept_field word (Some x) = Word (word x)

-- the high and the low mark, or `-` if they stay
abbrev pub kept_marks : Option (ℕ × ℕ) → Field
kept_marks None = Word (codes "-")
kept_marks (Some marks) = Pair marks.0 marks.1

-- the fields of a flush: of all bands, or of one band, with a word of its own
abbrev pub flush_fields : Option ℕ → List ℕ → List Field
flush_fields None flags = Word (message_word MessageWord.Flush) ∷ Word flags ∷ []
flush_fields (Some band) flags = Word (codes "flushband") ∷ Number band ∷ Word flags ∷ []

-- whether an error is given for both sides, and is the same
abbrev pub is_one_error : Option Errno → Option Errno → Bool
is_one_error (Some rd) (Some wr) = bytes_eq (name_of rd) (name_of wr)
is_one_error rd wr = false

-- the fields of an error: one for both sides if it is the same, else that of each
abbrev pub error_fields : Option Errno → Option Errno → List Field
error_fields rd wr =
    if is_one_error rd wr then Word (message_word MessageWord.Error) ∷ kept_field name_of rd ∷ []
    else Word (message_word MessageWord.Error2) ∷ kept_field name_of rd ∷ kept_field name_of wr ∷ []

abbrev pub message_fields_by : MsgKind → Msg → List Field
message_fields_by MData m = Word (message_word MessageWord.Data) ∷ Number m.band ∷ part_field m.dat ∷ []
message_fields_by MProto m = Word (message_word MessageWord.Proto) ∷ Number m.band ∷ part_field m.ctl ∷ part_field m.dat ∷ []
message_fields_by MPcproto m = Word (message_word MessageWord.Pcproto) ∷ part_field m.ctl ∷ part_field m.dat ∷ []
message_fields_by (MSetopts mode prot marks) m =
    Word (message_word MessageWord.Setopts) ∷ kept_field mode_word mode ∷ kept_field prot_word prot ∷ kept_marks marks ∷ []
message_fields_by (MFlush r w band) m = flush_fields band (flush_word r w)
message_fields_by (MIoctl id cmd) m = Word (inner_word InnerWord.Ioctl) ∷ Number id ∷ Number cmd ∷ part_field m.dat ∷ []
message_fields_by (MIocack id rval) m = Word (inner_word InnerWord.Iocack) ∷ Number id ∷ Number rval ∷ part_field m.dat ∷ []
message_fields_by (MIocnak id errno) m = Word (inner_word InnerWord.Iocnak) ∷ Number id ∷ Word (name_of errno) ∷ []
message_fields_by MHangup m = Word (message_word MessageWord.Hangup) ∷ []
message_fields_by (MError rd wr) m = error_fields rd wr

-- the fields of a message, as a feed and a service call have it
abbrev pub message_fields : Msg → List Field
message_fields m = message_fields_by m.kind m

-- ---- calls

abbrev pub verb_of : {K : Type 0} → Asked K → Verb
verb_of (Told verb fields) = verb
verb_of (Serves name side call) = service_verb call
verb_of (Pushed shape) = Verb.Push

-- the fields of a service call behind MODULE and SIDE
abbrev pub service_fields : ServiceCall → List Field
service_fields (Getq flag) = Word (wanted_word flag) ∷ []
service_fields (Putbq m) = message_fields m
service_fields (Putnext m) = message_fields m
service_fields (Bcanputnext band) = Number band ∷ []
service_fields Qsize = []

-- the fields of a call behind NAME:END
abbrev pub fields_of : {K : Type 0} → KindSpelling K → Asked K → List Field
fields_of spelling (Told verb fields) = fields
fields_of spelling (Serves name side call) = Word name ∷ Word (side_word side) ∷ service_fields call
fields_of spelling (Pushed shape) = push_fields spelling shape

-- whether it is a read or a write (no public clause cites it)
abbrev pub is_read_or_write : {X : Type 0} → Request X → Bool
is_read_or_write (Request.Read max) = true
is_read_or_write (Request.Write dat) = true
is_read_or_write request = false
