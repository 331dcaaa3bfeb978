-- The outcome of a message that is handed in from a line or a wire.
use Rattle.std.specs.Prelude.{◌≡◌, ℕ, not, Bool, true, Option, Some, None, ◌⊎◌, List, [], ◌∷◌, ℤ, pos}
use Rattle.strm_msg.specs.Message.{Msg, Part}
use Rattle.strm_msg.specs.declared.errno.Errno.{Errno}
use Rattle.strm_msg.specs.declared.errno.Errno.TheVariants.{ENOSR, EINVAL, EAGAIN}
use Rattle.strm_msg.specs.declared.words.End.TheVariants.{A}
use Rattle.strm_module.specs.Builtin.{builtin}
use Rattle.strm_module.specs.declared.kind.Kind.{Kind}
use Rattle.strm_chain_ends.specs.Image.{Image, end_of}
use Rattle.strm_head_calls.specs.Refusal.{errno_of, first_that_holds}
use Rattle.strm_head_calls.specs.declared.refusal.Refusal.{Refusal}
use Rattle.strm_head_calls.specs.declared.refusal.Refusal.TheVariants.{Closed, Broken, Invalid, TooLong}
use Rattle.strm_head_msg.specs.Send.{is_too_long}
use Rattle.strm_head.specs.declared.outcome.Arrived.{Arrived}
use Rattle.strm_head.specs.declared.outcome.Arrived.TheVariants.{Taken, Full, NoMem, Broke}
use Rattle.strm_head.specs.Arrive.{Arrives}
use Rattle.strm_module.specs.Driver.{is_line}
use Rattle.strm_c_numbers.specs.Numbers.{errno_number}
use Rattle.strm_c_calls.specs.Arguments.{part_argument}

abbrev pub arrived_code : Arrived → ℕ
arrived_code (Taken moves looks) = 0
arrived_code (Full m) = errno_number EAGAIN
arrived_code (NoMem m) = errno_number ENOSR
arrived_code Broke = errno_number ENOSR

-- the outcome of a message from a line or a wire: it comes in, or comes back
pub record Lands (old : Image Kind) (m : Msg) (code : ℤ) (new : Image Kind) : Type 0 where
  pub arrived : Arrived
  pub arrives : Arrives builtin old m arrived new
  pub code_is : code ≡ pos (arrived_code arrived)

-- no message comes in, and the stream is as it was
abbrev pub IsNotIn : Errno → Image Kind → ℤ → Image Kind → Type 0
IsNotIn errno old code new = (code ≡ pos (errno_number errno)) × (new ≡ old)

-- the result of a message that is handed in; EINVAL if there is no message
abbrev pub HandsIn : Image Kind → Option Msg → ℤ → Image Kind → Type 0
HandsIn old None code new = IsNotIn EINVAL old code new
HandsIn old (Some m) code new = Lands old m code new

-- the refusals of a message from a line or a wire whatever its bytes are, in the order in which they are
-- looked for: a closed end, a broken stream, a driver that is neither a line nor a wire, and a part that is
-- longer than one of a feed may be
abbrev pub arrival_refusals : Image Kind → Part → Part → List (Bool × Refusal)
arrival_refusals image ctl dat =
    (not (end_of image A).is_open, Closed) ∷ (image.broken, Broken) ∷ (not (is_line image.driver), Invalid) ∷ (is_too_long ctl dat, TooLong) ∷ []

-- the first refusal of a message with these parts whatever their bytes are
abbrev pub arrival_refusal : Image Kind → Bool → List ℕ → Bool → List ℕ → Option Refusal
arrival_refusal image has_ctl ctl has_dat dat = first_that_holds (arrival_refusals image (part_argument has_ctl ctl) (part_argument has_dat dat))

-- the result of a part for whose copy memory runs out
pub record LacksCopy (has_part : Bool) (old : Image Kind) (code : ℤ) (new : Image Kind) : Type 0 where
  pub is_there : has_part ≡ true
  pub is_not_in : IsNotIn ENOSR old code new

-- the outcome of bytes that are handed in: one of these refusals, or memory runs out for a copy (only if
-- there is a part), or the message of the bytes comes in
abbrev pub CopiesAndHandsIn : Option Refusal → Bool → Image Kind → Option Msg → ℤ → Image Kind → Type 0
CopiesAndHandsIn (Some refusal) has_part old asked code new = IsNotIn (errno_of refusal) old code new
CopiesAndHandsIn None has_part old asked code new = LacksCopy has_part old code new ⊎ HandsIn old asked code new
