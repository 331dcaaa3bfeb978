-- The calls that take a message whole or not at all: a take and a getq, and a strget, which takes the answer
-- to an ioctl. And what a take would give, before it is made.
use Rattle.std.specs.Prelude.{◌≡◌, ℕ, nat_le, ◌&&◌, not, Bool, true, false, Option, Some, None, is_none, option_map, Result, Ok, Err, List, length, ℤ, pos, if◌then◌else◌}
use Rattle.strm_msg.specs.Message.{Msg, Part}
use Rattle.strm_msg.specs.declared.errno.Errno.TheVariants.{ERANGE}
use Rattle.strm_msg.specs.declared.words.End.{End}
use Rattle.strm_module.specs.Builtin.{builtin}
use Rattle.strm_module.specs.declared.kind.Kind.{Kind}
use Rattle.strm_module.specs.declared.shape.Shape.{Shape}
use Rattle.strm_chain_ends.specs.Image.{Image, end_of}
use Rattle.strm_head_calls.specs.declared.refusal.Refusal.{Refusal}
use Rattle.strm_head_calls.specs.declared.refusal.Refusal.TheVariants.{Closed, TooLong}
use Rattle.strm_head_calls.specs.declared.request.Request.{Request}
use Rattle.strm_head_calls.specs.declared.request.Request.TheVariants as Requests
use Rattle.strm_head_calls.specs.declared.service.ServiceCall.TheVariants.{Getq}
use Rattle.strm_head_calls.specs.declared.answer.Reply.{Reply}
use Rattle.strm_head_calls.specs.declared.answer.Reply.TheVariants as Replies
use Rattle.strm_head_calls.specs.declared.answer.Answer.{Answer}
use Rattle.strm_head_calls.specs.declared.answer.Answer.TheVariants.{Done, Refused}
use Rattle.strm_head_ioctl.specs.Outside.{first_output}
use Rattle.strm_head_service.specs.First.{first_served}
use Rattle.strm_head.specs.Effects.{refusal_of, wants_memory}
use Rattle.strm_c_numbers.specs.Numbers.{end_of as end_at, errno_number}
use Rattle.strm_c_numbers.specs.Whole.{data_of}
use Rattle.strm_c_numbers.specs.declared.whole.Whole.{Whole}
use Rattle.strm_c_calls.specs.Codes.{code_of}
use Rattle.strm_c_calls.specs.Arguments.{RequestOrRefusal}
use Rattle.strm_c_calls.specs.Call.{IsStep, Calls, checked_call}
use Rattle.strm_c_calls.specs.declared.handle.Handle.{Handle}
use Rattle.strm_c_service.specs.Written.{whole_after}

-- the message that a call would take: the first of the output of a wire, the first of a queue that the
-- program serves, or the answer that is asked for later
abbrev pub first_of : Image Kind → End → Request (Shape Kind) → Option Msg
first_of image e Requests.Take = first_output image e
first_of image e (Requests.Service name side (Getq flag)) = first_served image e name.items side
first_of image e (Requests.Strget drops) = (end_of image e).state.answer
first_of image e request = None

-- the room for a part: the length of its buffer, or none if there is no buffer
abbrev pub room_of : Bool → List ℕ → Option ℕ
room_of has buffer = if has then Some (length buffer) else None

-- whether a part goes whole into its room; without a buffer no part does, not even one of no byte
abbrev pub length_goes_into : Option ℕ → Option ℕ → Bool
length_goes_into room None = true
length_goes_into None (Some len) = false
length_goes_into (Some room) (Some len) = nat_le len room

abbrev pub goes_into : Option ℕ → Part → Bool
goes_into room part = length_goes_into room (option_map (λ bytes. length bytes) part)

-- whether there is a message with a part that is longer than its room; a hangup has none
abbrev pub lacks_room : Option ℕ → Option ℕ → Option Msg → Bool
lacks_room ctl dat None = false
lacks_room ctl dat (Some m) = not (goes_into ctl m.ctl && goes_into dat (data_of m))

-- whether nothing refuses a call and the message that it would take has no room
abbrev pub stays_at : Image Kind → Result (End × Request (Shape Kind)) Refusal → Option ℕ → Option ℕ → Bool
stays_at image (Err refusal) ctl dat = false
stays_at image (Ok call) ctl dat = is_none (refusal_of builtin image call.0 call.1) && lacks_room ctl dat (first_of image call.0 call.1)

abbrev pub stays_for_room : Image Kind → Option End → RequestOrRefusal → Option ℕ → Option ℕ → Bool
stays_for_room image end asked ctl dat = stays_at image (checked_call end asked) ctl dat

-- the result of a message that stays because it has no room: ERANGE, and nothing is written
pub record Stays (old : Image Kind) (writes : Answer → Type 0) (code : ℤ) (new : Image Kind) : Type 0 where
  pub code_is : code ≡ pos (errno_number ERANGE)
  pub unwritten : writes (Refused TooLong)
  pub unchanged : new ≡ old

-- a call that takes a message whole: the message stays if it has no room, else the call is made
abbrev pub TakesWhole : Bool → Image Kind → ℕ → RequestOrRefusal → (Answer → Type 0) → ℤ → Image Kind → Type 0
TakesWhole true old end asked writes code new = Stays old writes code new
TakesWhole false old end asked writes code new = Calls old end asked writes code new

-- the same on the stream of a handle, by the room for both parts
abbrev pub TakesWholeOn : Handle → ℕ → RequestOrRefusal → Option ℕ → Option ℕ → (Answer → Type 0) → ℤ → Handle → Type 0
TakesWholeOn old end asked ctl dat writes code new =
    TakesWhole (stays_for_room old.held.stream (end_at end) asked ctl dat) old.held.stream end asked writes code new.held.stream

-- ---- what a take would give

-- its reply: the first message, or a hangup if there is none
abbrev pub reply_next : Option Msg → Reply
reply_next None = Replies.Hangup
reply_next (Some m) = Replies.Message m

-- its answer, by its refusal and the first message
abbrev pub answer_next : Option Refusal → Option Msg → Answer
answer_next (Some refusal) first = Refused refusal
answer_next None first = Done (reply_next first)

-- its answer if there is room for the message, and memory for the moves that follow
abbrev pub next_at : Image Kind → Option End → Answer
next_at image None = Refused Closed
next_at image (Some e) = answer_next (refusal_of builtin image e Requests.Take) (first_output image e)

-- each step of a take has that answer, unless memory runs out
abbrev pub NextForetells : Type 0
NextForetells = (old new : Image Kind) (e : End) (answer : Answer) → IsStep old e Requests.Take answer new → wants_memory answer ≡ false → answer ≡ next_at old (Some e)

-- the message that a take would return is described, and stays
pub record TellsNext (old : Image Kind) (end : Option End) (told : Whole) (told' : Whole) (code : ℤ) (new : Image Kind) : Type 0 where
  pub code_is : code ≡ pos (code_of (next_at old end))
  pub told_is : told' ≡ whole_after (next_at old end) told
  pub unchanged : new ≡ old

abbrev pub TellsNextOn : Handle → ℕ → Whole → Whole → ℤ → Handle → Type 0
TellsNextOn old end told told' code new = TellsNext old.held.stream (end_at end) told told' code new.held.stream
