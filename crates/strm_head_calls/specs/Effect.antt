-- The effect of a call before any queue moves.
use Rattle.std.specs.Prelude.{Bool, true, false, Option, List, [], if◌then◌else◌}
use Rattle.strm_msg.specs.Message.{Msg}
use Rattle.strm_module.specs.declared.shape.Shape.{Shape}
use Rattle.strm_head_calls.specs.declared.answer.Reply.{Reply}
use Rattle.strm_head_calls.specs.declared.answer.Reply.TheVariants.{Str}
use Rattle.strm_head_calls.specs.declared.answer.Acknowledged.TheVariants.{Timeout}
use Rattle.strm_head_calls.specs.Reply.{acknowledged}

-- the image of the stream that the call has made, its reply, whether it awaits an answer, and the modules
-- that it has taken out, topmost first. An ioctl awaits an answer, which then is its reply
pub record Effect (Image K : Type 0) : Type 0 where
  pub image : Image
  pub reply : Reply
  pub awaits : Bool
  pub out : List (Shape K)

-- a call that awaits nothing, and takes no module out
abbrev pub effect : {Image K : Type 0} → Image → Reply → Effect Image K
effect image reply = record { image = image; reply = reply; awaits = false; out = [] }

-- a call that awaits an answer, and has none if none comes
abbrev pub effect_ioctl : {Image K : Type 0} → Image → Effect Image K
effect_ioctl image = record { image = image; reply = Str Timeout; awaits = true; out = [] }

-- a call that takes modules out
abbrev pub effect_taking : {Image K : Type 0} → Image → Reply → List (Shape K) → Effect Image K
effect_taking image reply out = record { image = image; reply = reply; awaits = false; out = out }

-- the reply of a call when no queue must move any longer, and the answer that its head then has kept
abbrev pub reply_after : {Image K : Type 0} → Effect Image K → Option Msg → Reply
reply_after effect kept = if effect.awaits then Str (acknowledged kept) else effect.reply
