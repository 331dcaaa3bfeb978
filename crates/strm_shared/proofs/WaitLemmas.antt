-- Calls that need not wait are not refused as ones that would have to, and calls that only look leave the
-- stream as it is.
use Rattle.std.proofs.Common.{◌≡◌, ℕ, List, Option, Some, None, ◌∙◌, ap}
use Rattle.std.specs.Prelude.{◌≢◌, IfSome}
use Rattle.strm_msg.specs.declared.words.End.{End}
use Rattle.strm_module.specs.Kinds.{Meaning}
use Rattle.strm_module.specs.declared.shape.Shape.{Shape}
use Rattle.strm_chain_ends.specs.declared.place.Place.{Place}
use Rattle.strm_chain_ends.specs.Image.{Image}
use Rattle.strm_head_calls.specs.declared.request.Request.{Request}
use Rattle.strm_head_calls.specs.declared.refusal.Refusal.{Refusal}
use Rattle.strm_head_calls.specs.declared.refusal.Refusal.TheVariants.{WouldWait}
use Rattle.strm_head_calls.specs.declared.answer.Answer.{Answer}
use Rattle.strm_head_calls.specs.declared.answer.Answer.TheVariants as Answers
use Rattle.strm_head_calls.specs.declared.call.Call.{Call}
use Rattle.strm_head_calls.specs.declared.event.Event.TheVariants.{Asked}
use Rattle.strm_head.specs.Effects.{refusal_of}
use Rattle.strm_head.specs.Step.{Step, IsRefusedBy}
use Rattle.strm_shared_entry.specs.Entry.{Entry}
use Rattle.strm_shared_entry.specs.declared.call.Called.{Called}
use Rattle.strm_shared_entry.specs.declared.call.Called.TheVariants.{Done, NoRoom}
use Rattle.strm_shared_entry.specs.Receipt.{ReceiptValue}
use Rattle.strm_shared_log.specs.Log.{LogValue, CallsBy, IsSameLog}
use Rattle.strm_shared_log.proofs.LogLemmas.{calls_same}
use Rattle.strm_shared.specs.Waiting.{NeedNotWait, WaitedFor}
use Rattle.strm_shared.proofs.FoundLemmas.{called_step}

-- a call that is refused with EAGAIN has it for its first refusal
first_is : {P : Type 0} (first : Option Refusal) (request : Request P) (refusal : Refusal) → IsRefusedBy first request refusal → Answers.Refused refusal ≡ Answers.Refused WouldWait → first ≡ Some WouldWait
first_is None request refusal by is = absurd cc
first_is (Some first) request refusal by is = cc

-- the answer of the entry that a receipt shows
shows_answer : {K : Type 0} (receipt : Option (ReceiptValue K)) (caller number : ℕ) (entry : Entry K) (answer : Answer) → IfSome receipt (λ r. r ≡ record { caller = caller; number = number; entry = entry }) → entry.answer ≡ answer → IfSome receipt (λ r. r.entry.answer ≡ answer)
shows_answer None caller number entry answer shown answers = tt
shows_answer (Some r) caller number entry answer shown answers = ap (λ (r : ReceiptValue _). r.entry.answer) shown ∙ answers

-- for kinds of any meaning
module _ {K : Type 0} (means : Meaning K) where
  not_refused : (image : Image K) (e : End) (request : Request (Shape K)) (answer : Answer) (moves : List Place) (out : List ℕ) (after : Image K) → Step means image e (Asked request) answer moves out after → (refusal_of means image e request ≡ Some WouldWait → ⊥) → answer ≢ Answers.Refused WouldWait
  not_refused image e request (Answers.Refused refusal) moves out after step ready =
      λ is. ready (first_is (refusal_of means image e request) request refusal step.is_first is)
  not_refused image e request (Answers.Done reply) moves out after step ready = λ is. absurd cc
  not_refused image e request Answers.Broke moves out after step ready = λ is. absurd cc

  pub waited_for : {A : Type 0} (Agrees : A → Answer → Type 0) (old : LogValue K) (caller number : ℕ) (call : Call (Shape K)) (result : Called (Shape K) K A) (new : LogValue K) → CallsBy means Agrees old caller number call result new → NeedNotWait means old.image call → WaitedFor Agrees result
  waited_for Agrees old caller number call (Done has back receipt) new by ready =
      let enters = by.2.enters in (
        by.0,
        by.1,
        not_refused old.image call.end call.request by.0 enters.entry.moves enters.entry.out.items new.image (called_step means old new caller number call by.0 back.items receipt by.2) ready,
        shows_answer receipt caller number enters.entry by.0 by.2.shown enters.answers,
      )
  waited_for Agrees old caller number call (NoRoom same) new by ready = tt

  -- so it is where other room was found in between
  pub waited_on : {A : Type 0} (Agrees : A → Answer → Type 0) (old between : LogValue K) (caller number : ℕ) (call : Call (Shape K)) (result : Called (Shape K) K A) (new : LogValue K) → IsSameLog old between → CallsBy means Agrees between caller number call result new → NeedNotWait means old.image call → WaitedFor Agrees result
  waited_on Agrees old between caller number call result new same by ready =
      waited_for Agrees old caller number call result new (calls_same means Agrees old between new caller number call result same by) ready
