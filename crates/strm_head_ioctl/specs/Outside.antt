-- Calls from outside of a wire (Programmer's Guide: STREAMS, "Drivers").
use Rattle.std.specs.Prelude.{◌&&◌, not, Bool, Option, None, List, [], ◌∷◌, slice_get, if◌then◌else◌}
use Rattle.strm_msg.specs.Message.{Msg}
use Rattle.strm_msg.specs.declared.words.End.{End}
use Rattle.strm_module.specs.Driver.{has_end, is_wire}
use Rattle.strm_chain_ends.specs.Image.{Image, end_of, with_drv}
use Rattle.strm_head_calls.specs.declared.refusal.Refusal.{Refusal}
use Rattle.strm_head_calls.specs.declared.refusal.Refusal.TheVariants.{Closed, Broken, Invalid, WouldWait}
use Rattle.strm_head_calls.specs.declared.answer.Reply.TheVariants as Reply
use Rattle.strm_head_calls.specs.Effect.{Effect, effect}
use Rattle.strm_head_ioctl.specs.Ask.{is_empty}

-- the end of a wire, whose list in the driver is its output
abbrev pub has_output : {K : Type 0} → Image K → End → Bool
has_output image e = is_wire image.driver && has_end image.driver e

-- the first message of the output, which is taken next
abbrev pub first_output : {K : Type 0} → Image K → End → Option Msg
first_output image e = if has_output image e then slice_get (end_of image e).drv 0 else None

-- the refusals of a take, in the order in which they are looked for. A take is made outside of the stream, so
-- it minds a closed end only where that is no wire's
abbrev pub take_refusals : {K : Type 0} → Image K → End → List (Bool × Refusal)
take_refusals image e =
    (not (has_output image e) && not (end_of image e).is_open, Closed) ∷ (image.broken, Broken) ∷ (not (has_output image e), Invalid) ∷ (is_empty (end_of image e).drv && (end_of image e).is_open, WouldWait) ∷ []

-- the first message of the output leaves. Of a closed wire that holds none the reply is a hangup
abbrev pub taken_out : {K : Type 0} → Image K → End → List Msg → Effect (Image K) K
taken_out image e [] = effect image Reply.Hangup
taken_out image e (m ∷ q) = effect (with_drv image e q) (Reply.Message m)

abbrev pub take_effect : {K : Type 0} → Image K → End → Effect (Image K) K
take_effect image e = taken_out image e (end_of image e).drv
