-- What is returned of a call from below the head: a whole message, as numbers and bytes in the caller's
-- buffers, or the id of an ioctl.
use Rattle.std.specs.Prelude.{◌≡◌, ℕ, List}
use Rattle.strm_msg.specs.Message.{Msg, bare}
use Rattle.strm_msg.specs.declared.kind.MsgKind.TheVariants.{MHangup}
use Rattle.strm_head_calls.specs.declared.answer.Reply.{Reply}
use Rattle.strm_head_calls.specs.declared.answer.Reply.TheVariants as Replies
use Rattle.strm_head_calls.specs.declared.answer.Answer.{Answer}
use Rattle.strm_head_calls.specs.declared.answer.Answer.TheVariants.{Done}
use Rattle.strm_c_numbers.specs.Bytes.{filled_if}
use Rattle.strm_c_numbers.specs.Whole.{data_of, whole_of}
use Rattle.strm_c_numbers.specs.declared.whole.Whole.{Whole}
use Rattle.strm_c_calls.specs.Returned.{part_after}

-- the message that a reply gives; where it gives none, a hangup
abbrev pub message_in : Reply → Msg
message_in (Replies.Message m) = m
message_in reply = bare MHangup

-- the numbers of the message of an answer; the earlier ones if the answer is no reply
abbrev pub whole_after : Answer → Whole → Whole
whole_after (Done reply) old = whole_of (message_in reply)
whole_after answer old = old

-- the parts of the message of an answer are in these buffers, and these are its numbers
pub record HasMessage (ctl dat : List ℕ) (told : Whole) (ctl' dat' : List ℕ) (told' : Whole) (answer : Answer) : Type 0 where
  pub control : ctl' ≡ filled_if (part_after (λ reply. (message_in reply).ctl) answer) ctl
  pub bytes : dat' ≡ filled_if (part_after (λ reply. data_of (message_in reply)) answer) dat
  pub told_is : told' ≡ whole_after answer told

-- the id of the ioctl that an answer gives, if it gives one
abbrev pub id_after : Answer → ℕ → ℕ
id_after (Done (Replies.Strput id)) old = id
id_after answer old = old

abbrev pub IsId : ℕ → ℕ → Answer → Type 0
IsId id id' answer = id' ≡ id_after answer id
