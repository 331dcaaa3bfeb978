-- The parts of an answer that are written where the caller has room for them.
use Rattle.std.specs.Prelude.{◌≡◌, ℕ, Some, None, List, [], ◌∷◌, ◌++◌, map, length, slice_get, option_map, ℤ, pos}
use Rattle.arrayvec.specs.ArrayVec.{ArrayVec}
use Rattle.strm_msg.specs.Message.{Part}
use Rattle.strm_module.specs.declared.driver.Driver.{Driver}
use Rattle.strm_module.specs.Driver.{driver_name}
use Rattle.strm_head_calls.specs.declared.answer.Acknowledged.{Acknowledged}
use Rattle.strm_head_calls.specs.declared.answer.Acknowledged.TheVariants.{Ack, Nak, Timeout}
use Rattle.strm_head_calls.specs.declared.answer.Received.{Received}
use Rattle.strm_head_calls.specs.declared.answer.Received.TheVariants as Receiveds
use Rattle.strm_head_calls.specs.declared.service.Serviced.{Serviced}
use Rattle.strm_head_calls.specs.declared.service.Serviced.TheVariants as Serviceds
use Rattle.strm_head_calls.specs.declared.answer.Reply.{Reply}
use Rattle.strm_head_calls.specs.declared.answer.Reply.TheVariants as Replies
use Rattle.strm_head_calls.specs.declared.answer.Answer.{Answer}
use Rattle.strm_head_calls.specs.declared.answer.Answer.TheVariants.{Done}
use Rattle.strm_c_calls.specs.declared.returned.Returned.{Returned}
use Rattle.strm_c_numbers.specs.Numbers.{read_number, int_of, length_of}
use Rattle.strm_c_numbers.specs.Bytes.{filled, filled_if}
use Rattle.strm_c_calls.specs.Codes.{priority_number, more_number, bit_number}

-- the control of a reply, if it has any
abbrev pub ctl_of : Reply → Part
ctl_of (Replies.Getmsg ctl dat flag more) = ctl
ctl_of (Replies.Getpmsg ctl dat flag more) = ctl
ctl_of (Replies.Peek (Some seen)) = seen.ctl
ctl_of reply = None

-- the data of a reply, if it has any
abbrev pub dat_of : Reply → Part
dat_of (Replies.Getmsg ctl dat flag more) = dat
dat_of (Replies.Getpmsg ctl dat flag more) = dat
dat_of (Replies.Peek (Some seen)) = seen.dat
dat_of (Replies.Read dat) = Some dat
dat_of (Replies.Str (Ack rval dat)) = dat
dat_of reply = None

abbrev pub received_flags : Received → ℕ
received_flags (Receiveds.Band band) = 4
received_flags Receiveds.Hipri = 1

abbrev pub received_band : Received → ℕ
received_band (Receiveds.Band band) = band
received_band Receiveds.Hipri = 0

-- the description that goes with the bytes: the lengths of the parts, and the numbers of the rest
abbrev pub got : Part → Part → ℕ → ℕ → ℕ → ℕ → ℕ → Returned
got ctl dat found flags band more rval =
    record {
      ctl_len = length_of ctl;
      dat_len = length_of dat;
      found = pos found;
      flags = pos flags;
      band = int_of band;
      more = pos more;
      rval = rval;
    }

-- the description of parts of these lengths, of which nothing is left
abbrev pub got_lengths : ℤ → ℤ → ℤ → ℤ → Returned
got_lengths ctl_len dat_len found flags =
    record { ctl_len = ctl_len; dat_len = dat_len; found = found; flags = flags; band = pos 0; more = pos 0; rval = 0 }

-- the number of the answer to an ioctl: STRM_ACK is 1, STRM_NAK is 2, and STRM_TIMEOUT is 3, if nothing has
-- answered
abbrev pub answer_number : Acknowledged → ℕ
answer_number (Ack rval dat) = 1
answer_number (Nak errno) = 2
answer_number Timeout = 3

-- the value of an ioctl that was carried out
abbrev pub rval_of : Acknowledged → ℕ
rval_of (Ack rval dat) = rval
rval_of answer = 0

abbrev pub got_of : Reply → Returned
got_of (Replies.Getmsg ctl dat flag more) = got ctl dat 1 (priority_number flag) 0 (more_number more) 0
got_of (Replies.Getpmsg ctl dat flag more) = got ctl dat 1 (received_flags flag) (received_band flag) (more_number more) 0
got_of (Replies.Peek (Some seen)) = got seen.ctl seen.dat 1 (priority_number seen.flag) 0 0 0
got_of (Replies.Read dat) = got None (Some dat) 1 0 0 0 0
got_of (Replies.Str answer) = got None (dat_of (Replies.Str answer)) (answer_number answer) 0 0 0 (rval_of answer)
got_of reply = got None None 0 0 0 0 0

-- the description of an answer; the earlier one if the answer is no reply
abbrev pub got_after : Answer → Returned → Returned
got_after (Done reply) old = got_of reply
got_after answer old = old

-- the part of an answer, if it is a reply
abbrev pub part_after : (Reply → Part) → Answer → Part
part_after part (Done reply) = part reply
part_after part answer = None

-- the parts of an answer are in these buffers, and this is their description
pub record HasTaken (ctl dat : List ℕ) (told : Returned) (ctl' dat' : List ℕ) (told' : Returned) (answer : Answer) : Type 0 where
  pub control : ctl' ≡ filled_if (part_after ctl_of answer) ctl
  pub bytes : dat' ≡ filled_if (part_after dat_of answer) dat
  pub told_is : told' ≡ got_after answer told

-- the number of the reply of a service call
abbrev pub serviced_value : Serviced → ℕ
serviced_value (Serviceds.Bcanputnext can) = bit_number can
serviced_value (Serviceds.Qsize messages) = messages
serviced_value told = 0

-- the number of a reply
abbrev pub returned_value : Reply → ℕ
returned_value (Replies.Write len) = len
returned_value (Replies.Nread messages bytes) = messages
returned_value (Replies.GetRead mode prot) = read_number mode prot
returned_value (Replies.Canput can) = bit_number can
returned_value (Replies.Ckband waits) = bit_number waits
returned_value (Replies.Getband band) = band
returned_value (Replies.Find found) = bit_number found
returned_value (Replies.Service told) = serviced_value told
returned_value reply = 0

-- the second number of a reply: the data bytes of the first message
abbrev pub returned_bytes : Reply → ℕ
returned_bytes (Replies.Nread messages bytes) = bytes
returned_bytes reply = 0

abbrev pub value_after : (Reply → ℕ) → Answer → ℤ → ℤ
value_after value (Done reply) old = int_of (value reply)
value_after value answer old = old

-- this is the number of an answer
abbrev pub IsValue : ℤ → ℤ → Answer → Type 0
IsValue value value' answer = value' ≡ value_after returned_value answer value

-- these are both numbers of an answer
pub record AreValues (value bytes value' bytes' : ℤ) (answer : Answer) : Type 0 where
  pub value_is : value' ≡ value_after returned_value answer value
  pub bytes_is : bytes' ≡ value_after returned_bytes answer bytes

-- nine bytes: a name, and at least one zero behind it
abbrev pub name_field : List ℕ → List ℕ
name_field name = filled name (0 ∷ (0 ∷ (0 ∷ (0 ∷ (0 ∷ (0 ∷ (0 ∷ (0 ∷ (0 ∷ [])))))))))

-- the names of the modules of an end, and that of its driver
abbrev pub names_on : List (ArrayVec ℕ) → Driver → List (List ℕ)
names_on names driver = map (λ n. n.items) names ++ driver_name driver ∷ []

-- the name at an index of a reply, 0 for the first, if it has that many
abbrev pub returned_name : ℕ → Reply → Part
returned_name i (Replies.Look name) = option_map (λ n. name_field n.items) (slice_get (name ∷ []) i)
returned_name i (Replies.List names driver) = option_map (λ n. name_field n) (slice_get (names_on names.items driver) i)
returned_name i reply = None

-- the number of names of a reply
abbrev pub returned_count : Reply → ℕ
returned_count (Replies.Look name) = 1
returned_count (Replies.List names driver) = length (names_on names.items driver)
returned_count reply = 0

-- a name of an answer is in this buffer, and this is the number of its names
pub record IsNamed (i : ℕ) (name : List ℕ) (count : ℤ) (name' : List ℕ) (count' : ℤ) (answer : Answer) : Type 0 where
  pub bytes : name' ≡ filled_if (part_after (returned_name i) answer) name
  pub count_is : count' ≡ value_after returned_count answer count

-- nothing is written
abbrev pub Nothing : Answer → Type 0
Nothing answer = Unit {0}
