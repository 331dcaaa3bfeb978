-- The printed answers of calls.
use Rattle.std.specs.Prelude.{ℕ, Bool, true, false, List, [], ◌∷◌, ◌++◌, map, Option, Some, None, codes}
use Rattle.arrayvec.specs.ArrayVec.{ArrayVec}
use Rattle.strm_msg.specs.Text.{name_of}
use Rattle.strm_module.specs.declared.driver.Driver.{Driver}
use Rattle.strm_module.specs.Driver.{driver_name}
use Rattle.strm_head_calls.specs.Refusal.{errno_of}
use Rattle.strm_head_calls.specs.declared.answer.More.{More}
use Rattle.strm_head_calls.specs.declared.answer.More.TheVariants as mores
use Rattle.strm_head_calls.specs.declared.answer.Received.{Received}
use Rattle.strm_head_calls.specs.declared.answer.Received.TheVariants as received
use Rattle.strm_head_calls.specs.declared.answer.Peeked.{Peeked}
use Rattle.strm_head_calls.specs.declared.answer.Polled.{Polled}
use Rattle.strm_head_calls.specs.Polled.{is_in, is_rdnorm, is_rdband, is_pri}
use Rattle.strm_head_calls.specs.declared.answer.Acknowledged.{Acknowledged}
use Rattle.strm_head_calls.specs.declared.answer.Acknowledged.TheVariants.{Ack, Nak, Timeout}
use Rattle.strm_head_calls.specs.declared.answer.Reply.{Reply}
use Rattle.strm_head_calls.specs.declared.service.Serviced.{Serviced}
use Rattle.strm_head_calls.specs.declared.service.Serviced.TheVariants as serviced
use Rattle.strm_head_calls.specs.declared.answer.Answer.{Answer}
use Rattle.strm_head_calls.specs.declared.answer.Answer.TheVariants.{Done, Refused, Broke}
use Rattle.strm_script_words.specs.Words.{priority_word, mode_word, prot_word}
use Rattle.strm_script_words.specs.Field.{Field, Bytes, Number, Word, part_field}
use Rattle.strm_script_words.specs.Arrival.{message_word}
use Rattle.strm_script_words.specs.declared.arrival.MessageWord.{MessageWord}
use Rattle.strm_script_print.specs.Fields.{message_fields}

-- the word that names the parts of which something is left
abbrev pub more_word : More → List ℕ
more_word mores.Nothing = codes "0"
more_word mores.Ctl = codes "ctl"
more_word mores.Data = codes "data"
more_word mores.Both = codes "both"

-- the word of a truth
abbrev pub holds_word : Bool → List ℕ
holds_word true = codes "1"
holds_word false = codes "0"

-- the fields of a call that reports only that it was done
abbrev pub done_fields : List Field
done_fields = Word (codes "0") ∷ []

-- the band or the priority of a received message: `band N`, or `hipri`
abbrev pub received_fields : Received → List Field
received_fields (received.Band band) = Word (codes "band") ∷ Number band ∷ []
received_fields received.Hipri = Word (codes "hipri") ∷ []

abbrev pub peeked_fields : Option Peeked → List Field
peeked_fields None = Word (codes "none") ∷ []
peeked_fields (Some seen) = part_field seen.ctl ∷ part_field seen.dat ∷ Word (priority_word seen.flag) ∷ []

abbrev pub acknowledged_fields : Acknowledged → List Field
acknowledged_fields (Ack rval dat) = Number rval ∷ part_field dat ∷ []
acknowledged_fields (Nak errno) = Word (codes "nak") ∷ Word (name_of errno) ∷ []
acknowledged_fields Timeout = Word (codes "ETIME") ∷ []

abbrev pub name_fields : List (ArrayVec ℕ) → List Field
name_fields names = map (λ name. Word name.items) names

-- ---- polls: the words of the flags that hold, joined by `+`, and `0` where none holds

-- the words so far, with one more if its flag holds
abbrev pub with_word : Bool → List ℕ → List ℕ → List ℕ
with_word false word so_far = so_far
with_word true word [] = word
with_word true word (c ∷ so_far) = (c ∷ so_far) ++ 43 ∷ word

abbrev pub joined : List ℕ → List (Bool × List ℕ) → List ℕ
joined so_far [] = so_far
joined so_far (flag ∷ flags) = joined (with_word flag.0 flag.1 so_far) flags

-- the flags in their order, each with whether it holds
abbrev pub poll_flags : Polled → List (Bool × List ℕ)
poll_flags told =
    (is_in told.first, codes "in") ∷ (is_rdnorm told.first, codes "rdnorm") ∷ (is_rdband told.first, codes "rdband") ∷ (is_pri told.first, codes "pri") ∷ (told.out, codes "out") ∷ (told.wrband, codes "wrband") ∷ (told.err, codes "err") ∷ (told.hup, codes "hup") ∷ (told.nval, codes "nval") ∷ []

abbrev pub or_zero : List ℕ → List ℕ
or_zero [] = codes "0"
or_zero (c ∷ word) = c ∷ word

abbrev pub poll_word : Polled → List ℕ
poll_word told = or_zero (joined [] (poll_flags told))

-- ----

-- the names of modules, and behind them the name of the driver
abbrev pub list_fields : List (ArrayVec ℕ) → Driver → List Field
list_fields names driver = name_fields names ++ Word (driver_name driver) ∷ []

-- a service call that takes no message
abbrev pub serviced_fields : Serviced → List Field
serviced_fields serviced.Putbq = done_fields
serviced_fields serviced.Putnext = done_fields
serviced_fields (serviced.Bcanputnext can) = Word (holds_word can) ∷ []
serviced_fields (serviced.Qsize messages) = Number messages ∷ []

abbrev pub reply_fields : Reply → List Field
reply_fields Reply.Putmsg = done_fields
reply_fields Reply.Putpmsg = done_fields
reply_fields (Reply.Getmsg ctl dat flag more) = part_field ctl ∷ part_field dat ∷ Word (priority_word flag) ∷ Word (more_word more) ∷ []
reply_fields (Reply.Getpmsg ctl dat flag more) = part_field ctl ∷ part_field dat ∷ received_fields flag ++ Word (more_word more) ∷ []
reply_fields (Reply.Read dat) = Bytes dat ∷ []
reply_fields (Reply.Write len) = Number len ∷ []
reply_fields Reply.Push = done_fields
reply_fields (Reply.Nread messages bytes) = Number messages ∷ Number bytes ∷ []
reply_fields (Reply.Peek found) = peeked_fields found
reply_fields Reply.SetRead = done_fields
reply_fields (Reply.GetRead mode prot) = Word (mode_word mode) ∷ Word (prot_word prot) ∷ []
reply_fields (Reply.Canput can) = Word (holds_word can) ∷ []
reply_fields (Reply.Ckband waits) = Word (holds_word waits) ∷ []
reply_fields (Reply.Getband band) = Number band ∷ []
reply_fields (Reply.Pop name) = Word (codes "popped") ∷ Word name.items ∷ []
reply_fields (Reply.Look name) = Word name.items ∷ []
reply_fields (Reply.List names driver) = list_fields names.items driver
reply_fields (Reply.Find found) = Word (holds_word found) ∷ []
reply_fields (Reply.Str answer) = acknowledged_fields answer
reply_fields (Reply.Strput id) = Number id ∷ []
reply_fields Reply.Flush = done_fields
reply_fields Reply.FlushBand = done_fields
reply_fields (Reply.Close names) = Word (codes "closed") ∷ name_fields names.items
reply_fields Reply.Tick = done_fields
reply_fields Reply.Line = done_fields
reply_fields (Reply.Message m) = message_fields m
reply_fields Reply.Hangup = Word (message_word MessageWord.Hangup) ∷ []
reply_fields (Reply.Service told) = serviced_fields told
reply_fields (Reply.Poll told) = Word (poll_word told) ∷ []

-- whether it is the reply of a read or of a write (no public clause cites it)
abbrev pub is_read_or_write : Reply → Bool
is_read_or_write (Reply.Read dat) = true
is_read_or_write (Reply.Write len) = true
is_read_or_write reply = false

-- the fields of an answer; a refusal has the name of its errno alone
abbrev pub answer_fields : Answer → List Field
answer_fields (Done reply) = reply_fields reply
answer_fields (Refused refusal) = Word (name_of (errno_of refusal)) ∷ []
answer_fields Broke = Word (codes "ENOSR") ∷ Word (codes "broke") ∷ []
