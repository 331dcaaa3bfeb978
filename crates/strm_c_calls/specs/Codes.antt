-- The numbers of answers, drivers and flags in C (stropts.h of System V Release 4).
use Rattle.std.specs.Prelude.{ℕ, ◌+◌, nat_eq, bit_and, bit_or, Bool, true, false, Option, Some, None, if◌then◌else◌}
use Rattle.strm_msg.specs.declared.errno.Errno.TheVariants.{ENOSR, ETIME}
use Rattle.strm_module.specs.declared.driver.Driver.{Driver}
use Rattle.strm_module.specs.declared.driver.Driver.TheVariants as Drivers
use Rattle.strm_head_calls.specs.Refusal.{errno_of}
use Rattle.strm_head_calls.specs.declared.request.Priority.{Priority}
use Rattle.strm_head_calls.specs.declared.request.Priority.TheVariants as Priorities
use Rattle.strm_head_calls.specs.declared.request.PutFlag.{PutFlag}
use Rattle.strm_head_calls.specs.declared.request.PutFlag.TheVariants as PutFlags
use Rattle.strm_head_calls.specs.declared.request.Wanted.{Wanted}
use Rattle.strm_head_calls.specs.declared.request.Wanted.TheVariants as Wanteds
use Rattle.strm_head_calls.specs.declared.request.GetFlag.{GetFlag}
use Rattle.strm_head_calls.specs.declared.request.GetFlag.TheVariants as GetFlags
use Rattle.strm_head_calls.specs.declared.answer.More.{More}
use Rattle.strm_head_calls.specs.declared.answer.More.TheVariants as Mores
use Rattle.strm_head_calls.specs.declared.answer.Acknowledged.{Acknowledged}
use Rattle.strm_head_calls.specs.declared.answer.Acknowledged.TheVariants.{Ack, Nak, Timeout}
use Rattle.strm_head_calls.specs.declared.answer.Polled.{Polled}
use Rattle.strm_head_calls.specs.Polled.{is_in, is_rdnorm, is_rdband, is_pri}
use Rattle.strm_head_calls.specs.declared.answer.Reply.{Reply}
use Rattle.strm_head_calls.specs.declared.answer.Reply.TheVariants.{Str}
use Rattle.strm_head_calls.specs.declared.answer.Answer.{Answer}
use Rattle.strm_head_calls.specs.declared.answer.Answer.TheVariants.{Done, Refused, Broke}
use Rattle.strm_c_numbers.specs.Numbers.{errno_number}

-- the code of an ioctl's answer: 0, the errno that it was refused with, or ETIME
abbrev pub ack_code : Acknowledged → ℕ
ack_code (Ack rval dat) = 0
ack_code (Nak errno) = errno_number errno
ack_code Timeout = errno_number ETIME

abbrev pub reply_code : Reply → ℕ
reply_code (Str answer) = ack_code answer
reply_code reply = 0

-- the code that a call returns: 0 if it was done, else the number of an errno; ENOSR if the stream broke
abbrev pub code_of : Answer → ℕ
code_of (Done reply) = reply_code reply
code_of (Refused refusal) = errno_number (errno_of refusal)
code_of Broke = errno_number ENOSR

abbrev pub driver_of : ℕ → Option Driver
driver_of n =
    if nat_eq n 0 then Some Drivers.Echo else if nat_eq n 1 then Some Drivers.Loop else if nat_eq n 2 then Some Drivers.Line
    else if nat_eq n 3 then Some Drivers.Wire else None

-- whether a module is pushed under noenable, by its flags: STRM_NOENABLE is 1
abbrev pub noenable_of : ℕ → Option Bool
noenable_of flags = if nat_eq flags 0 then Some false else if nat_eq flags 1 then Some true else None

-- the priority of a putmsg by its flags: RS_HIPRI is 1
abbrev pub priority_of : ℕ → Option Priority
priority_of flags = if nat_eq flags 0 then Some Priorities.Norm else if nat_eq flags 1 then Some Priorities.Hipri else None

abbrev pub wanted_of : ℕ → Option Wanted
wanted_of flags = if nat_eq flags 0 then Some Wanteds.Any else if nat_eq flags 1 then Some Wanteds.Hipri else None

-- the flags of a putpmsg and of a getpmsg by their numbers: MSG_HIPRI is 1, MSG_ANY is 2 and MSG_BAND is 4
abbrev pub put_flag_of : ℕ → Option PutFlag
put_flag_of flags =
    if nat_eq flags 0 then Some PutFlags.Zero else if nat_eq flags 1 then Some PutFlags.Hipri else if nat_eq flags 4 then Some PutFlags.Band else None

abbrev pub get_flag_of : ℕ → Option GetFlag
get_flag_of flags =
    if nat_eq flags 0 then Some GetFlags.Zero else if nat_eq flags 1 then Some GetFlags.Hipri else if nat_eq flags 2 then Some GetFlags.Any
    else if nat_eq flags 4 then Some GetFlags.Band else None

abbrev pub priority_number : Priority → ℕ
priority_number Priorities.Norm = 0
priority_number Priorities.Hipri = 1

-- the number of the parts of which something is left: MORECTL is 1 and MOREDATA is 2
abbrev pub more_number : More → ℕ
more_number Mores.Nothing = 0
more_number Mores.Ctl = 1
more_number Mores.Data = 2
more_number Mores.Both = 3

abbrev pub bit_number : Bool → ℕ
bit_number false = 0
bit_number true = 1

-- the flags if a condition holds, else 0
abbrev pub flags_if : Bool → ℕ → ℕ
flags_if holds flags = if holds then flags else 0

-- all conditions that hold, by the numbers of poll.h on Linux: POLLIN is 1, POLLPRI 2, POLLOUT 4 with
-- POLLWRNORM 256, POLLERR 8, POLLHUP 16, POLLNVAL 32, POLLRDNORM 64, POLLRDBAND 128 and POLLWRBAND 512
abbrev pub poll_flags : Polled → ℕ
poll_flags told =
    flags_if (is_in told.first) 1 + flags_if (is_pri told.first) 2 + flags_if told.out 260 + flags_if told.err 8 + flags_if told.hup 16 + flags_if told.nval 32 + flags_if (is_rdnorm told.first) 64 + flags_if (is_rdband told.first) 128 + flags_if told.wrband 512

-- the events that a poll returns: those that were asked for, and POLLERR, POLLHUP and POLLNVAL
abbrev pub returned_flags : ℕ → Polled → ℕ
returned_flags events told = bit_and (bit_or events 56) (poll_flags told)
