-- The calls of service procedures that are the program's, by their words and fields, and the messages that
-- they send.
use Rattle.std.specs.Prelude.{ℕ, ◌+◌, Bool, true, false, List, [], ◌∷◌, Option, Some, None, Result, Ok, Err, codes}
use Rattle.strm_msg.specs.Message.{Msg, bare, ioctl_msg, ack_msg}
use Rattle.strm_msg.specs.declared.kind.MsgKind.TheVariants.{MFlush, MIocnak}
use Rattle.strm_msg.specs.declared.words.Side.{Side}
use Rattle.strm_module.specs.declared.shape.TheConstants.{LONGEST_NAME}
use Rattle.strm_head_calls.specs.declared.service.ServiceCall.{ServiceCall}
use Rattle.strm_head_calls.specs.declared.service.ServiceCall.TheVariants.{Getq, Putbq, Putnext, Bcanputnext, Qsize}
use Rattle.strm_script_text.specs.Text.{name_of}
use Rattle.strm_script_words.specs.Fault.{◌>>=◌, or_fault}
use Rattle.strm_script_words.specs.Words.{named, wanted_word, all_wanted, side_word, all_queues}
use Rattle.strm_script_words.specs.Field.{number_at, optional_upto, value_at, errno_at}
use Rattle.strm_script_words.specs.Arrival.{message_named, flush_at, limited_at}
use Rattle.strm_script_words.specs.declared.fault.Cause.{Cause}
use Rattle.strm_script_words.specs.declared.fault.Cause.TheVariants as causes
use Rattle.strm_script_words.specs.declared.arrival.Limits.{Limits}
use Rattle.strm_script_words.specs.declared.arrival.MessageWord.{MessageWord}
use Rattle.strm_script_words.specs.declared.arrival.MessageWord.TheVariants as messages
use Rattle.strm_script_words.specs.declared.service.InnerWord.{InnerWord}
use Rattle.strm_script_words.specs.declared.service.InnerWord.TheVariants as inners
use Rattle.strm_script_words.specs.declared.service.TheConstants.{MOST_PART, MOST_ID}
use Rattle.strm_script_words.specs.declared.verb.Verb.{Verb}
use Rattle.strm_script_words.specs.declared.field.TheConstants.{MOST_BAND, MOST_U32}

-- ---- messages

-- the word of a message that comes in from no line
abbrev pub inner_word : InnerWord → List ℕ
inner_word inners.FlushBand = codes "flushband"
inner_word inners.Ioctl = codes "ioctl"
inner_word inners.Iocack = codes "iocack"
inner_word inners.Iocnak = codes "iocnak"

abbrev pub all_inner : List InnerWord
all_inner = inners.FlushBand ∷ inners.Ioctl ∷ inners.Iocack ∷ inners.Iocnak ∷ []

abbrev pub inner_named : List ℕ → Option InnerWord
inner_named text = named inner_word all_inner text

-- the numbers of fields behind the word
abbrev pub message_fields : MessageWord → ℕ
message_fields messages.Data = 2
message_fields messages.Proto = 3
message_fields messages.Pcproto = 2
message_fields messages.Setopts = 3
message_fields messages.Flush = 1
message_fields messages.Hangup = 0
message_fields messages.Error = 1
message_fields messages.Error2 = 2

abbrev pub inner_fields : InnerWord → ℕ
inner_fields inners.FlushBand = 2
inner_fields inners.Ioctl = 3
inner_fields inners.Iocack = 3
inner_fields inners.Iocnak = 2

-- a service call may send parts of any length that a part has
abbrev pub part_limits : Limits
part_limits = record { ctl = MOST_PART; dat = MOST_PART }

-- the message of BAND FLAGS
abbrev pub flush_band_at : List (List ℕ) → Result Msg Cause
flush_band_at (band ∷ flags ∷ []) = do
  b ← number_at MOST_BAND band
  sides ← flush_at flags
  Ok (bare (MFlush sides.0 sides.1 (Some b)))
flush_band_at texts = Err causes.Fields

-- the message of ID CMD DAT
abbrev pub ioctl_at : List (List ℕ) → Result Msg Cause
ioctl_at (id ∷ cmd ∷ dat ∷ []) = do
  i ← number_at MOST_ID id
  c ← number_at MOST_U32 cmd
  bytes ← optional_upto MOST_PART dat
  Ok (ioctl_msg i c bytes)
ioctl_at texts = Err causes.Fields

-- the message of ID RVAL DAT
abbrev pub iocack_at : List (List ℕ) → Result Msg Cause
iocack_at (id ∷ rval ∷ dat ∷ []) = do
  i ← number_at MOST_ID id
  r ← number_at MOST_ID rval
  bytes ← optional_upto MOST_PART dat
  Ok (ack_msg i r bytes)
iocack_at texts = Err causes.Fields

-- the message of ID ERRNO
abbrev pub iocnak_at : List (List ℕ) → Result Msg Cause
iocnak_at (id ∷ text ∷ []) = do
  i ← number_at MOST_ID id
  errno ← errno_at text
  Ok (bare (MIocnak i errno))
iocnak_at texts = Err causes.Fields

abbrev pub inner_at : InnerWord → List (List ℕ) → Result Msg Cause
inner_at inners.FlushBand texts = flush_band_at texts
inner_at inners.Ioctl texts = ioctl_at texts
inner_at inners.Iocack texts = iocack_at texts
inner_at inners.Iocnak texts = iocnak_at texts

-- the message that a service call sends, by its word: one that a feed may offer, or another
abbrev pub sent_by : Option MessageWord → List ℕ → List (List ℕ) → Result Msg Cause
sent_by (Some word) text texts = limited_at part_limits word texts
sent_by None text texts = or_fault causes.UnknownWord (inner_named text) >>= λ word. inner_at word texts

abbrev pub sent_at : List (List ℕ) → Result Msg Cause
sent_at [] = Err causes.Fields
sent_at (text ∷ texts) = sent_by (message_named text) text texts

-- the number of its fields behind its word
abbrev pub sent_fields : Option MessageWord → List ℕ → Result ℕ Cause
sent_fields (Some word) text = Ok (message_fields word)
sent_fields None text = or_fault causes.UnknownWord (inner_named text) >>= λ word. Ok (inner_fields word)

-- ---- calls

-- the calls of a service procedure
abbrev pub is_service : Verb → Bool
is_service Verb.Getq = true
is_service Verb.Putbq = true
is_service Verb.Putnext = true
is_service Verb.Bcanputnext = true
is_service Verb.Qsize = true
is_service verb = false

-- whether the call sends a message, which takes memory
abbrev pub sends_message : Verb → Bool
sends_message Verb.Putbq = true
sends_message Verb.Putnext = true
sends_message verb = false

-- the number of fields that follow NAME:END: MODULE and SIDE, and those of the call
abbrev pub sent_arity : List (List ℕ) → Result ℕ Cause
sent_arity (name ∷ side ∷ text ∷ texts) = sent_fields (message_named text) text >>= λ n. Ok (n + 3)
sent_arity texts = Err causes.Fields

abbrev pub service_arity : Verb → List (List ℕ) → Result ℕ Cause
service_arity Verb.Getq texts = Ok 3
service_arity Verb.Bcanputnext texts = Ok 3
service_arity Verb.Putbq texts = sent_arity texts
service_arity Verb.Putnext texts = sent_arity texts
service_arity verb texts = Ok 2

-- the call of these fields behind MODULE and SIDE
abbrev pub getq_at : List (List ℕ) → Result ServiceCall Cause
getq_at (flag ∷ []) = value_at wanted_word all_wanted flag >>= λ wanted. Ok (Getq wanted)
getq_at texts = Err causes.Fields

abbrev pub bcanputnext_at : List (List ℕ) → Result ServiceCall Cause
bcanputnext_at (band ∷ []) = number_at MOST_BAND band >>= λ b. Ok (Bcanputnext b)
bcanputnext_at texts = Err causes.Fields

abbrev pub qsize_at : List (List ℕ) → Result ServiceCall Cause
qsize_at [] = Ok Qsize
qsize_at (text ∷ texts) = Err causes.Fields

abbrev pub service_call_at : Verb → List (List ℕ) → Result ServiceCall Cause
service_call_at Verb.Getq texts = getq_at texts
service_call_at Verb.Putbq texts = sent_at texts >>= λ m. Ok (Putbq m)
service_call_at Verb.Putnext texts = sent_at texts >>= λ m. Ok (Putnext m)
service_call_at Verb.Bcanputnext texts = bcanputnext_at texts
service_call_at verb texts = qsize_at texts

-- the verb of a call
abbrev pub service_verb : ServiceCall → Verb
service_verb (Getq flag) = Verb.Getq
service_verb (Putbq m) = Verb.Putbq
service_verb (Putnext m) = Verb.Putnext
service_verb (Bcanputnext band) = Verb.Bcanputnext
service_verb Qsize = Verb.Qsize

abbrev pub module_at : List ℕ → Result (List ℕ) Cause
module_at text = or_fault causes.Name (name_of LONGEST_NAME text)

abbrev pub queue_at : List ℕ → Result Side Cause
queue_at text = value_at side_word all_queues text
