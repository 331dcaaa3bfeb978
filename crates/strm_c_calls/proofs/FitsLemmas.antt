-- What the head gives of a message is cut to what was asked for.
use Rattle.std.proofs.Common.{ℕ, zero, suc, ◌≤◌, Option, Some, None, List, length, take, sym, subst, arith, if◌then◌else◌, true, false}
use Rattle.std.proofs.lemmas.List.{length-take}
use Rattle.strm_msg.specs.Message.{Msg, Part}
use Rattle.strm_msg.specs.declared.words.End.{End}
use Rattle.strm_module.specs.declared.kind.Kind.{Kind}
use Rattle.strm_module.specs.declared.shape.Shape.{Shape}
use Rattle.strm_chain_ends.specs.Image.{Image, end_of}
use Rattle.strm_head_calls.specs.declared.request.Request.{Request}
use Rattle.strm_head_calls.specs.declared.request.Request.TheVariants as Requests
use Rattle.strm_head_calls.specs.declared.request.Wanted.{Wanted}
use Rattle.strm_module.specs.Builtin.{builtin}
use Rattle.strm_chain_ends.specs.declared.place.Place.{Place}
use Rattle.strm_head_calls.specs.declared.event.Event.TheVariants.{Asked}
use Rattle.strm_head.specs.Step.{Step}
use Rattle.strm_head_calls.specs.declared.answer.Answer.{Answer}
use Rattle.strm_head_calls.specs.declared.answer.Answer.TheVariants.{Done}
use Rattle.strm_head_calls.specs.Cut.{given}
use Rattle.strm_chain_end.specs.First.{first_message}
use Rattle.strm_head_msg.specs.Take.{getmsg_reply, getpmsg_reply, matches_getmsg, peeked_of, shown_of}
use Rattle.strm_head_calls.specs.declared.answer.Reply.TheVariants as Replies
use Rattle.strm_c_calls.specs.Fits.{FitsIn, AreWithin, Fits}

no_part : (most : Option ℕ) → FitsIn most None
no_part most = omega arith

none_within : (maxctl maxdat : Option ℕ) → FitsIn maxctl None × FitsIn maxdat None
none_within maxctl maxdat = (no_part maxctl, no_part maxdat)

taken_fits : (n : ℕ) (bytes : List ℕ) → length (take n bytes) ≤ n
taken_fits n bytes = rw length-take (omega arith)

given_fits : (most : Option ℕ) (part : Part) → FitsIn most (given most part)
given_fits None part = omega arith
given_fits (Some n) None = omega arith
given_fits (Some n) (Some bytes) = taken_fits n bytes

getmsg_fits : (m : Option Msg) (maxctl maxdat : Option ℕ) → AreWithin maxctl maxdat (Done (getmsg_reply m maxctl maxdat))
getmsg_fits None maxctl maxdat = (omega arith, omega arith)
getmsg_fits (Some m) maxctl maxdat = (given_fits maxctl m.ctl, given_fits maxdat m.dat)

getpmsg_fits : (m : Option Msg) (maxctl maxdat : Option ℕ) → AreWithin maxctl maxdat (Done (getpmsg_reply m maxctl maxdat))
getpmsg_fits None maxctl maxdat = (omega arith, omega arith)
getpmsg_fits (Some m) maxctl maxdat = (given_fits maxctl m.ctl, given_fits maxdat m.dat)

peek_fits : (m : Option Msg) (maxctl maxdat : Option ℕ) (flag : Wanted) → AreWithin maxctl maxdat (Done (Replies.Peek (peeked_of m maxctl maxdat flag)))
peek_fits None maxctl maxdat flag = none_within maxctl maxdat
peek_fits (Some m) maxctl maxdat flag =
    elim (matches_getmsg flag m) as (λ b. AreWithin maxctl maxdat (Done (Replies.Peek (if b then Some (shown_of m maxctl maxdat) else None)))) [
      | true ↦ (given_fits maxctl m.ctl, given_fits maxdat m.dat)
      | false ↦ none_within maxctl maxdat
    ]

-- the answer of a step fits
pub step_fits : (old new : Image Kind) (e : End) (request : Request (Shape Kind)) (answer : Answer) (moves : List Place) (out : List ℕ) → Step builtin old e (Asked request) answer moves out new → Fits request answer
step_fits old new e (Requests.Getmsg maxctl maxdat flag) (Done reply) moves out step =
    subst (λ r. AreWithin maxctl maxdat (Done r)) (sym step.2.replies) (getmsg_fits (first_message (end_of old e).head) maxctl maxdat)
step_fits old new e (Requests.Getmsg maxctl maxdat flag) answer moves out step = none_within maxctl maxdat
step_fits old new e (Requests.Getpmsg maxctl maxdat band flag) (Done reply) moves out step =
    subst (λ r. AreWithin maxctl maxdat (Done r)) (sym step.2.replies) (getpmsg_fits (first_message (end_of old e).head) maxctl maxdat)
step_fits old new e (Requests.Getpmsg maxctl maxdat band flag) answer moves out step = none_within maxctl maxdat
step_fits old new e (Requests.Peek maxctl maxdat flag) (Done reply) moves out step =
    subst (λ r. AreWithin maxctl maxdat (Done r)) (sym step.2.replies) (peek_fits (first_message (end_of old e).head) maxctl maxdat flag)
step_fits old new e (Requests.Peek maxctl maxdat flag) answer moves out step = none_within maxctl maxdat
step_fits old new e (Requests.Read zero) (Done reply) moves out step =
    subst (λ r. AreWithin None (Some 0) (Done r)) (sym step.2.replies) (omega arith, omega arith)
step_fits old new e (Requests.Read (suc n)) (Done reply) moves out step =
    subst (λ r. AreWithin None (Some (suc n)) (Done r)) (sym step.2.replies) (omega arith, taken_fits (suc n) _)
step_fits old new e (Requests.Read max) answer moves out step = none_within None (Some max)
step_fits old new e request answer moves out step = tt
