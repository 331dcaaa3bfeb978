-- An exported call: a step of the stream. The call returns the code of the answer, and writes the answer
-- where the caller has room for it.
use Rattle.std.specs.Prelude.{◌≡◌, ℕ, Bool, true, false, ◌⊎◌, Option, Some, None, Result, Ok, Err, List, ℤ, pos}
use Rattle.strm_msg.specs.declared.errno.Errno.TheVariants.{ENOSR}
use Rattle.strm_msg.specs.declared.words.End.{End}
use Rattle.strm_module.specs.Builtin.{builtin}
use Rattle.strm_module.specs.declared.kind.Kind.{Kind}
use Rattle.strm_module.specs.declared.shape.Shape.{Shape}
use Rattle.strm_module.specs.declared.driver.Driver.{Driver}
use Rattle.strm_chain_ends.specs.Image.{Image, fresh}
use Rattle.strm_chain_ends.specs.declared.place.Place.{Place}
use Rattle.strm_head_calls.specs.declared.request.Request.{Request}
use Rattle.strm_head_calls.specs.declared.request.Request.TheVariants.{Putmsg, Putpmsg}
use Rattle.strm_head_calls.specs.declared.refusal.Refusal.{Refusal}
use Rattle.strm_head_calls.specs.declared.refusal.Refusal.TheVariants.{Closed, NoMemory}
use Rattle.strm_head_calls.specs.declared.answer.Answer.{Answer}
use Rattle.strm_head_calls.specs.declared.answer.Answer.TheVariants.{Refused}
use Rattle.strm_head_calls.specs.Setup.{are_marks}
use Rattle.strm_head_calls.specs.declared.event.Event.TheVariants.{Asked as Call}
use Rattle.strm_head.specs.Effects.{out_of, takes_no_memory_at, wants_memory, BreaksNone}
use Rattle.strm_head.specs.Step.{Step}
use Rattle.strm_c_numbers.specs.Numbers.{end_of, errno_number}
use Rattle.strm_c_calls.specs.Codes.{code_of}
use Rattle.strm_c_calls.specs.Arguments.{RequestOrRefusal}
use Rattle.strm_c_calls.specs.Judged.{refused_at}
use Rattle.strm_c_calls.specs.Fits.{Fits}

-- the calls that take no memory on a stream as it is, neither for the step nor for their arguments; the parts
-- of a putmsg and of a putpmsg have a box
abbrev pub costs_no_memory : Image Kind → End → Request (Shape Kind) → Bool
costs_no_memory old e (Putmsg flag parts) = false
costs_no_memory old e (Putpmsg band flag parts) = false
costs_no_memory old e request = takes_no_memory_at old e request

-- the stream takes the step of a request, with this answer and with no part that is longer than was asked for
pub record IsStep (old : Image Kind) (e : End) (request : Request (Shape Kind)) (answer : Answer) (new : Image Kind) : Type 0 where
  pub moves : List Place
  pub step : Step builtin old e (Call request) answer moves (out_of builtin old e request answer) new
  pub memory : costs_no_memory old e request ≡ true → wants_memory answer ≡ false
  pub still : BreaksNone builtin old e request answer
  pub fits : Fits request answer

-- the request at an end, or the refusal: of a number that is no end, which counts as a closed end, or of
-- arguments that make no request
abbrev pub checked_call : Option End → RequestOrRefusal → Result (End × Request (Shape Kind)) Refusal
checked_call None asked = Err Closed
checked_call (Some e) (Err refusal) = Err refusal
checked_call (Some e) (Ok request) = Ok (e, request)

-- the answer of a step, or of the refusal that came before it and leaves the stream as it is
abbrev pub Answers : Image Kind → Result (End × Request (Shape Kind)) Refusal → Answer → Image Kind → Type 0
Answers old (Ok call) answer new = IsStep old call.0 call.1 answer new
Answers old (Err refusal) answer new = (answer ≡ Refused refusal) × (new ≡ old)

-- an exported call: the answer to the request at an end, its code, and the parts of it that are written
pub record Calls (old : Image Kind) (end : ℕ) (asked : RequestOrRefusal) (writes : Answer → Type 0) (code : ℤ) (new : Image Kind) : Type 0 where
  pub answer : Answer
  pub answers : Answers old (checked_call (end_of end) asked) answer new
  pub code_is : code ≡ pos (code_of answer)
  pub written : writes answer

-- the refusal of a call because memory runs out for a copy of the caller's bytes; nothing else refuses the
-- call
pub record LacksMemory (old : Image Kind) (end : ℕ) (asked : RequestOrRefusal) (writes : Answer → Type 0) (code : ℤ) (new : Image Kind) : Type 0 where
  pub is_last : refused_at old (end_of end) asked ≡ NoMemory
  pub code_is : code ≡ pos (errno_number ENOSR)
  pub written : writes (Refused NoMemory)
  pub unchanged : new ≡ old

-- an exported call in which memory may run out outside the model: the call, or out of memory for the copy
abbrev pub CopiesAndCalls : Image Kind → ℕ → RequestOrRefusal → (Answer → Type 0) → ℤ → Image Kind → Type 0
CopiesAndCalls old end asked writes code new =
    Calls old end asked writes code new ⊎ LacksMemory old end asked writes code new

-- the result of an open that fails with this errno: the handle is as it was
abbrev pub IsNotOpened : ℕ → ℤ → Type 0 → Type 0
IsNotOpened errno code same = (code ≡ pos errno) × same

-- a new stream of a driver, with the marks of its heads and of the driver
abbrev pub fresh_with : Driver → ℕ × ℕ → ℕ × ℕ → Image Kind
fresh_with driver head drv = fresh driver (record { hi = head.0; lo = head.1 }) (record { hi = drv.0; lo = drv.1 })

-- the result of an open that succeeds: the handle leads to a new stream
pub record IsFresh (driver : Driver) (head drv : ℕ × ℕ) (code : ℤ) (is_open : Bool) (new : Image Kind) : Type 0 where
  pub code_is : code ≡ pos 0
  pub opened : is_open ≡ true
  pub is_fresh : new ≡ fresh_with driver head drv

-- an open with a driver, by whether its marks are ones that a stream can have: a new stream or ENOSR, else
-- EINVAL
abbrev pub OpensWith : Bool → Driver → ℕ × ℕ → ℕ × ℕ → ℤ → Type 0 → Bool → Image Kind → Type 0
OpensWith true driver head drv code same is_open new = IsNotOpened 63 code same ⊎ IsFresh driver head drv code is_open new
OpensWith false driver head drv code same is_open new = IsNotOpened 22 code same

-- an open; EINVAL for a number that is no driver, and for marks of which a low one is not below its high one
abbrev pub Opens : Option Driver → ℕ × ℕ → ℕ × ℕ → ℤ → Type 0 → Bool → Image Kind → Type 0
Opens None head drv code same is_open new = IsNotOpened 22 code same
Opens (Some driver) head drv code same is_open new = OpensWith (are_marks head drv) driver head drv code same is_open new
