-- The requests that the arguments of a service call make.
use Rattle.std.specs.Prelude.{ℕ, nat_le, Bool, Option, Some, None, Ok, List, length, if◌then◌else◌}
use Rattle.arrayvec.specs.ArrayVec.{ArrayVec}
use Rattle.strm_msg.specs.Message.{Msg}
use Rattle.strm_module.specs.declared.shape.TheConstants.{LONGEST_NAME}
use Rattle.strm_head_calls.specs.declared.request.Request.TheVariants as Requests
use Rattle.strm_head_calls.specs.declared.service.ServiceCall.{ServiceCall}
use Rattle.strm_head_calls.specs.declared.service.ServiceCall.TheVariants.{Getq, Putbq, Putnext}
use Rattle.strm_c_numbers.specs.Numbers.{side_of}
use Rattle.strm_c_numbers.specs.Whole.{whole_message}
use Rattle.strm_c_numbers.specs.declared.whole.Whole.{Whole}
use Rattle.strm_c_calls.specs.Arguments.{RequestOrRefusal, ask, part_argument}
use Rattle.strm_c_calls.specs.Codes.{wanted_of}
use Rattle.strm_c_service.specs.declared.sending.Sending.{Sending}
use Rattle.strm_c_service.specs.declared.sending.Sending.TheVariants.{On, Back}

-- a name, if the name of a module can be as long
abbrev pub name_of : List ℕ → Option (ArrayVec ℕ)
name_of name = if nat_le (length name) LONGEST_NAME then Some (record { items = name }) else None

-- the service call of a queue, by the name of its module and a number for its side
abbrev pub service_of : List ℕ → ℕ → ServiceCall → RequestOrRefusal
service_of name side call = ask (side_of side) (λ s. ask (name_of name) (λ n. Ok (Requests.Service n s call)))

abbrev pub getq_of : List ℕ → ℕ → ℕ → RequestOrRefusal
getq_of name side flags = ask (wanted_of flags) (λ flag. service_of name side (Getq flag))

-- the message of these numbers and parts, if they make one
abbrev pub message_argument : Whole → Bool → List ℕ → Bool → List ℕ → Option Msg
message_argument whole has_ctl ctl has_dat dat = whole_message whole (part_argument has_ctl ctl) (part_argument has_dat dat)

-- the call that sends a message on, or puts it back
abbrev pub call_of : Sending → Msg → ServiceCall
call_of On m = Putnext m
call_of Back m = Putbq m

abbrev pub sent_of : Sending → List ℕ → ℕ → Whole → Bool → List ℕ → Bool → List ℕ → RequestOrRefusal
sent_of sending name side whole has_ctl ctl has_dat dat =
    ask (message_argument whole has_ctl ctl has_dat dat) (λ m. service_of name side (call_of sending m))

-- an ioctl of data, whose answer is asked for later
abbrev pub strput_of : ℕ → Bool → List ℕ → RequestOrRefusal
strput_of cmd has_dat dat = Ok (Requests.Strput cmd (part_argument has_dat dat))
