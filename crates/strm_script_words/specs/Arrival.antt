-- Messages by their words and fields. The parts of those of a feed are no longer than those that a call may
-- send.
use Rattle.std.specs.Prelude.{ℕ, Bool, true, false, List, [], ◌∷◌, Option, Some, None, Result, Ok, Err, codes, if◌then◌else◌}
use Rattle.std.specs.Str.{bytes_eq}
use Rattle.strm_msg.specs.Message.{Msg, bare, data_msg, proto_msg, pcproto_msg}
use Rattle.strm_msg.specs.declared.kind.MsgKind.TheVariants.{MSetopts, MFlush, MHangup, MError}
use Rattle.strm_msg.specs.declared.errno.Errno.{Errno}
use Rattle.strm_msg.specs.declared.words.ReadMode.{ReadMode}
use Rattle.strm_msg.specs.declared.words.Prot.{Prot}
use Rattle.strm_head_calls.specs.declared.request.TheConstants.{MAX_CONTROL, MAX_DATA}
use Rattle.strm_script_words.specs.Fault.{◌>>=◌}
use Rattle.strm_script_words.specs.Words.{named, mode_word, all_modes, prot_word, all_prots, flush_word, all_sides}
use Rattle.strm_script_words.specs.Field.{number_at, value_at, part_upto, optional_upto, optional_marks_at, errno_at}
use Rattle.strm_script_words.specs.declared.fault.Cause.{Cause}
use Rattle.strm_script_words.specs.declared.fault.Cause.TheVariants as causes
use Rattle.strm_script_words.specs.declared.arrival.MessageWord.{MessageWord}
use Rattle.strm_script_words.specs.declared.arrival.Limits.{Limits}
use Rattle.strm_script_words.specs.declared.field.TheConstants.{MOST_BAND}

-- the word of a message
abbrev pub message_word : MessageWord → List ℕ
message_word MessageWord.Data = codes "data"
message_word MessageWord.Proto = codes "proto"
message_word MessageWord.Pcproto = codes "pcproto"
message_word MessageWord.Setopts = codes "setopts"
message_word MessageWord.Flush = codes "flush"
message_word MessageWord.Hangup = codes "hangup"
message_word MessageWord.Error = codes "error"
message_word MessageWord.Error2 = codes "error2"

abbrev pub all_messages : List MessageWord
all_messages = MessageWord.Data ∷ MessageWord.Proto ∷ MessageWord.Pcproto ∷ MessageWord.Setopts ∷ MessageWord.Flush ∷ MessageWord.Hangup ∷ MessageWord.Error ∷ MessageWord.Error2 ∷ []

-- the message that a word names
abbrev pub message_named : List ℕ → Option MessageWord
message_named text = named message_word all_messages text

-- the treatment of message bounds by reads, by its word
abbrev pub mode_at : List ℕ → Result ReadMode Cause
mode_at text = value_at mode_word all_modes text

abbrev pub prot_at : List ℕ → Result Prot Cause
prot_at text = value_at prot_word all_prots text

-- the same, or `-` if it stays
abbrev pub optional_mode_at : List ℕ → Result (Option ReadMode) Cause
optional_mode_at text = if bytes_eq text (codes "-") then Ok None else (mode_at text >>= λ mode. Ok (Some mode))

abbrev pub optional_prot_at : List ℕ → Result (Option Prot) Cause
optional_prot_at text = if bytes_eq text (codes "-") then Ok None else (prot_at text >>= λ prot. Ok (Some prot))

-- the sides of a flush, read and write, by their word
abbrev pub flush_at : List ℕ → Result (Bool × Bool) Cause
flush_at text = value_at (λ sides. flush_word sides.0 sides.1) all_sides text

-- the message of BAND PART, whose parts have at most these lengths
abbrev pub data_at : Limits → List (List ℕ) → Result Msg Cause
data_at limits (band ∷ dat ∷ []) = do
  b ← number_at MOST_BAND band
  bytes ← part_upto limits.dat dat
  Ok (data_msg b bytes)
data_at limits texts = Err causes.Fields

-- the message of BAND PART DAT
abbrev pub proto_at : Limits → List (List ℕ) → Result Msg Cause
proto_at limits (band ∷ ctl ∷ dat ∷ []) = do
  b ← number_at MOST_BAND band
  control ← part_upto limits.ctl ctl
  bytes ← optional_upto limits.dat dat
  Ok (proto_msg b control bytes)
proto_at limits texts = Err causes.Fields

-- the message of PART DAT
abbrev pub pcproto_at : Limits → List (List ℕ) → Result Msg Cause
pcproto_at limits (ctl ∷ dat ∷ []) = do
  control ← part_upto limits.ctl ctl
  bytes ← optional_upto limits.dat dat
  Ok (pcproto_msg control bytes)
pcproto_at limits texts = Err causes.Fields

-- the message of MODE PROT HI/LO, where `-` leaves each as it is
abbrev pub setopts_at : List (List ℕ) → Result Msg Cause
setopts_at (mode ∷ prot ∷ marks ∷ []) = do
  m ← optional_mode_at mode
  p ← optional_prot_at prot
  w ← optional_marks_at marks
  Ok (bare (MSetopts m p w))
setopts_at texts = Err causes.Fields

-- the message of FLAGS
abbrev pub flush_msg_at : List (List ℕ) → Result Msg Cause
flush_msg_at (flags ∷ []) = flush_at flags >>= λ sides. Ok (bare (MFlush sides.0 sides.1 None))
flush_msg_at texts = Err causes.Fields

abbrev pub hangup_at : List (List ℕ) → Result Msg Cause
hangup_at [] = Ok (bare MHangup)
hangup_at (text ∷ texts) = Err causes.Fields

-- the message of ERRNO
abbrev pub error_at : List (List ℕ) → Result Msg Cause
error_at (text ∷ []) = errno_at text >>= λ errno. Ok (bare (MError (Some errno) (Some errno)))
error_at texts = Err causes.Fields

-- an errno, or `-` if the one of a side stays
abbrev pub optional_errno_at : List ℕ → Result (Option Errno) Cause
optional_errno_at text = if bytes_eq text (codes "-") then Ok None else (errno_at text >>= λ errno. Ok (Some errno))

-- the message of READ WRITE, where `-` leaves a side as it is
abbrev pub error2_at : List (List ℕ) → Result Msg Cause
error2_at (read ∷ write ∷ []) = do
  rd ← optional_errno_at read
  wr ← optional_errno_at write
  Ok (bare (MError rd wr))
error2_at texts = Err causes.Fields

-- whether the message takes memory, for its parts
abbrev pub takes_memory : MessageWord → Bool
takes_memory MessageWord.Data = true
takes_memory MessageWord.Proto = true
takes_memory MessageWord.Pcproto = true
takes_memory word = false

-- the message of this word with these fields, whose parts have at most these lengths
abbrev pub limited_at : Limits → MessageWord → List (List ℕ) → Result Msg Cause
limited_at limits MessageWord.Data texts = data_at limits texts
limited_at limits MessageWord.Proto texts = proto_at limits texts
limited_at limits MessageWord.Pcproto texts = pcproto_at limits texts
limited_at limits MessageWord.Setopts texts = setopts_at texts
limited_at limits MessageWord.Flush texts = flush_msg_at texts
limited_at limits MessageWord.Hangup texts = hangup_at texts
limited_at limits MessageWord.Error texts = error_at texts
limited_at limits MessageWord.Error2 texts = error2_at texts

-- the greatest lengths that a call may send
abbrev pub call_limits : Limits
call_limits = record { ctl = MAX_CONTROL; dat = MAX_DATA }

-- the message of this word with these fields, as a feed offers it
abbrev pub message_at : MessageWord → List (List ℕ) → Result Msg Cause
message_at word texts = limited_at call_limits word texts
