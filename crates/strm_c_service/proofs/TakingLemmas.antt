-- A take gives what is told before it.
use Rattle.std.proofs.Common.{◌≡◌, ◌&&◌, not, Bool, true, false, Option, Some, None, List, [], ◌∷◌, refl, sym, ap, ◌∙◌, slice_get, if◌then◌else◌}
use Rattle.strm_msg.specs.Message.{Msg}
use Rattle.strm_msg.specs.declared.words.End.{End}
use Rattle.strm_module.specs.Builtin.{builtin}
use Rattle.strm_module.specs.declared.kind.Kind.{Kind}
use Rattle.strm_module.specs.declared.shape.Shape.{Shape}
use Rattle.strm_chain_ends.specs.Image as Ends
use Rattle.strm_chain_ends.specs.Image.{Image}
use Rattle.strm_head_calls.specs.declared.refusal.Refusal.{Refusal}
use Rattle.strm_head_calls.specs.declared.refusal.Refusal.TheVariants.{Closed, Broken, Invalid, WouldWait}
use Rattle.strm_head_calls.specs.Effect.{reply_after}
use Rattle.strm_head_calls.specs.declared.request.Request.{Request}
use Rattle.strm_head_calls.specs.declared.request.Request.TheVariants as Requests
use Rattle.strm_head_calls.specs.declared.answer.Reply.{Reply}
use Rattle.strm_head_calls.specs.declared.answer.Answer.{Answer}
use Rattle.strm_head_calls.specs.declared.answer.Answer.TheVariants.{Done, Refused, Broke}
use Rattle.strm_head_calls.specs.Refusal.{first_that_holds}
use Rattle.strm_head_ioctl.specs.Ask.{is_empty}
use Rattle.strm_head_ioctl.specs.Outside.{has_output, first_output, taken_out}
use Rattle.strm_head.specs.Effects.{refusal_of, wants_memory}
use Rattle.strm_head.specs.Step.{IsRefusedBy}
use Rattle.strm_c_calls.specs.Call.{IsStep}
use Rattle.strm_c_service.specs.Taking.{reply_next, answer_next, next_at}

-- the refusals of a take: where none holds, the end has an output
has_one : (no_output closed broken waits : Bool) → first_that_holds ((no_output && closed, Closed) ∷ (broken, Broken) ∷ (no_output, Invalid) ∷ (waits, WouldWait) ∷ []) ≡ None → no_output ≡ false
has_one false closed broken waits none = refl
has_one true true broken waits none = absurd cc
has_one true false true waits none = absurd cc
has_one true false false waits none = absurd cc

negated : (b : Bool) → not b ≡ false → b ≡ true
negated true is = refl
negated false is = absurd cc

-- the reply of a take that nothing refuses
reply_is : (old : Image Kind) (e : End) (q : List Msg) (kept : Option Msg) → reply_after (taken_out old e q) kept ≡ reply_next (slice_get q 0)
reply_is old e [] kept = refl
reply_is old e (m ∷ q) kept = refl

output_is : (old : Image Kind) (e : End) → refusal_of builtin old e Requests.Take ≡ None → first_output old e ≡ slice_get (Ends.end_of old e).drv 0
output_is old e none =
    let s = Ends.end_of old e in
    let has = negated (has_output old e) (has_one (not (has_output old e)) (not s.is_open) old.broken (is_empty s.drv && s.is_open) none) in
    ap (λ (b : Bool). if b then slice_get s.drv 0 else None) has

-- a refusal that is told
refused_is : (request : Request (Shape Kind)) (found : Option Refusal) (first : Option Msg) (refusal : Refusal) → IsRefusedBy found request refusal → wants_memory (Refused refusal) ≡ false → Refused refusal ≡ answer_next found first
refused_is request None first refusal is fits = absurd (let no : wants_memory (Refused refusal) ≡ true = ap (λ (r : Refusal). wants_memory (Refused r)) is.0 in cc)
refused_is request (Some found) first refusal is fits = ap (λ (r : Refusal). Refused r) is

pub next_is : (old new : Image Kind) (e : End) (answer : Answer) → IsStep old e Requests.Take answer new → wants_memory answer ≡ false → answer ≡ next_at old (Some e)
next_is old new e (Done reply) taken fits =
    let none = taken.step.0 in
    let kept = (Ends.end_of taken.step.2.settled e).state.kept in
    ap (λ (r : Reply). Done r) (taken.step.2.replies ∙ reply_is old e (Ends.end_of old e).drv kept ∙ ap (λ (m : Option Msg). reply_next m) (sym (output_is old e none))) ∙ ap (λ (found : Option Refusal). answer_next found (first_output old e)) (sym none)
next_is old new e (Refused refusal) taken fits = refused_is Requests.Take (refusal_of builtin old e Requests.Take) (first_output old e) refusal taken.step.is_first fits
next_is old new e Broke taken fits = absurd cc
