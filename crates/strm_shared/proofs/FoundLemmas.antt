-- What callers of a shared stream find of its history.
use Rattle.std.proofs.Common.{◌≡◌, ℕ, ◌+◌, zero, Bool, List, [], ◌∷◌, Option, Some, None, map, take, ap, refl, sym, ◌∙◌, subst}
use Rattle.std.specs.Prelude.{flat_map}
use Rattle.std.proofs.lemmas.Simd.{map-map}
use Rattle.arrayvec.specs.ArrayVec.{ArrayVec}
use Rattle.strm_msg.specs.Message.{Msg}
use Rattle.strm_msg.specs.declared.words.End.{End}
use Rattle.strm_chain_end.specs.Pair.{QueuePair}
use Rattle.strm_chain_ends.specs.declared.place.Place.{Place}
use Rattle.strm_chain_ends.specs.Image.{Image, end_of}
use Rattle.strm_module.specs.Kinds.{Meaning}
use Rattle.strm_module.specs.declared.shape.Shape.{Shape}
use Rattle.strm_head_calls.specs.declared.answer.Answer.{Answer}
use Rattle.strm_head_calls.specs.declared.answer.Answer.TheVariants as Answers
use Rattle.strm_head_calls.specs.declared.answer.Reply.TheVariants as ReplyOf
use Rattle.strm_head_calls.specs.declared.request.Request.{Request}
use Rattle.strm_head_calls.specs.declared.request.Request.TheVariants as Requests
use Rattle.strm_head_calls.specs.declared.refusal.Refusal.TheVariants.{Invalid, HungUp}
use Rattle.strm_head_calls.specs.Refusal.{first_that_holds}
use Rattle.strm_head_calls.specs.declared.call.Call.{Call}
use Rattle.strm_head_calls.specs.Effect.{reply_after}
use Rattle.strm_head_ioctl.specs.Ask.{is_empty}
use Rattle.strm_head_ioctl.specs.Modules.{pop_refusals, first_name}
use Rattle.strm_head_ioctl.proofs.OutsideLemmas.{taken_none}
use Rattle.strm_head_calls.specs.declared.event.Event.{Event}
use Rattle.strm_head_calls.specs.declared.event.Event.TheVariants.{Asked}
use Rattle.strm_head.specs.Effects.{back_of, effect_of, common_refusals, handed_out, refusal_of}
use Rattle.strm_head.specs.Step.{Step}
use Rattle.strm_head.proofs.RefusalLemmas.{first_of_all, none_behind}
use Rattle.strm_shared_entry.specs.declared.call.Called.{Called}
use Rattle.strm_shared_entry.specs.declared.call.Called.TheVariants.{Done, NoRoom}
use Rattle.strm_shared_entry.specs.Entry.{Entry}
use Rattle.strm_shared_entry.specs.Entry.{asked_of, serial_of}
use Rattle.strm_shared_log.specs.Steps.{due_back}
use Rattle.strm_shared_log.specs.Log.{LogValue, CallsBy, IsCalled}
use Rattle.strm_shared_entry.specs.Receipt.{ReceiptValue}
use Rattle.strm_shared.specs.Seat.{SeatValue}
use Rattle.strm_shared.specs.Ending.{Replies, HandsOut, HandsBackMade, HandsBack, Shows}

-- a pop that is not refused has a module to take out, the topmost
pop_out : {K : Type 0} (modules : List (QueuePair K)) (hung : Bool) (answer : Answer) (back : List (Option (Shape K))) → first_that_holds ((is_empty modules, Invalid) ∷ (hung, HungUp) ∷ []) ≡ None → Replies answer (ReplyOf.Pop (first_name modules)) → back ≡ handed_out (take 1 (map (λ s. s.shape) modules)) → HandsOut Requests.Pop answer back
pop_out [] hung answer back none replies comes = absurd cc
pop_out (topmost ∷ others) hung answer back none replies comes = (topmost.shape, replies, comes)

-- a close takes all out
close_out : {K : Type 0} (modules : List (QueuePair K)) (answer : Answer) (back : List (Option (Shape K))) → Replies answer (ReplyOf.Close (record { items = map (λ s. s.shape.name) modules })) → back ≡ handed_out (map (λ s. s.shape) modules) → HandsOut Requests.Close answer back
close_out modules answer back replies comes = (
  map (λ s. s.shape) modules,
  subst (λ (names : List (ArrayVec ℕ)). Replies answer (ReplyOf.Close (record { items = names }))) (sym (map-map (λ (s : Shape _). s.name) (λ (s : QueuePair _). s.shape) modules)) replies,
  comes,
)

-- for kinds of any meaning
module _ {K : Type 0} (means : Meaning K) where
  -- what a call that is not refused takes out, by the call
  hands_out : (image : Image K) (e : End) (request : Request (Shape K)) (answer : Answer) (back : List (Option (Shape K))) (kept : Option Msg) → refusal_of means image e request ≡ None → Replies answer (reply_after (effect_of means image e request) kept) → back ≡ handed_out (effect_of means image e request).out → HandsOut request answer back
  hands_out image e Requests.Pop answer back kept none replies comes = pop_out (end_of image e).modules (end_of image e).state.hung answer back
      (none_behind (first_that_holds (common_refusals image e Requests.Pop)) (first_that_holds (pop_refusals image e)) (sym (first_of_all means image e Requests.Pop refl) ∙ none))
      replies comes
  hands_out image e Requests.Close answer back kept none replies comes = close_out (end_of image e).modules answer back replies comes
  hands_out image e (Requests.Read zero) answer back kept none replies comes = comes
  hands_out image e Requests.Take answer back kept none replies comes = comes ∙ ap (λ out. handed_out out) (taken_none image e (end_of image e).drv)
  hands_out image e request answer back kept none replies comes = comes

  -- of a step that a call has made
  made_back : (image : Image K) (call : Call (Shape K)) (answer : Answer) (moves : List Place) (out : List ℕ) (after : Image K) (back : List (Option (Shape K))) → Step means image call.end (Asked call.request) answer moves out after → back ≡ back_of means image call.end call.request answer → HandsBackMade call answer back
  made_back image call (Answers.Refused refusal) moves out after back step comes = comes
  made_back image call (Answers.Done reply) moves out after back step comes =
      hands_out image call.end call.request (Answers.Done reply) back (end_of step.2.settled call.end).state.kept step.0 step.2.replies comes
  made_back image call Answers.Broke moves out after back step comes = hands_out image call.end call.request Answers.Broke back None step.0 tt comes

  -- the step of a call that was made
  pub called_step : (old new : LogValue K) (caller number : ℕ) (call : Call (Shape K)) (answer : Answer) (back : List (Option (Shape K))) (receipt : Option (ReceiptValue K)) → (is : IsCalled means old caller number call answer back receipt new) → Step means old.image call.end (Asked call.request) answer is.enters.entry.moves is.enters.entry.out.items new.image
  called_step old new caller number call answer back receipt is =
      let entry = is.enters.entry in
      let at_end : Step means old.image call.end entry.event entry.answer entry.moves entry.out.items new.image = subst (λ (e : End). Step means old.image e entry.event entry.answer entry.moves entry.out.items new.image) is.enters.at is.enters.step.step in
      let has : Step means old.image call.end (Asked call.request) entry.answer entry.moves entry.out.items new.image = subst (λ (event : Event (Shape K)). Step means old.image call.end event entry.answer entry.moves entry.out.items new.image) is.enters.has at_end in
      subst (λ (a : Answer). Step means old.image call.end (Asked call.request) a entry.moves entry.out.items new.image) is.enters.answers has

  called_back : (old new : LogValue K) (caller number : ℕ) (call : Call (Shape K)) (answer : Answer) (back : List (Option (Shape K))) (receipt : Option (ReceiptValue K)) → IsCalled means old caller number call answer back receipt new → HandsBackMade call answer back
  called_back old new caller number call answer back receipt is =
      let entry = is.enters.entry in
      made_back old.image call answer entry.moves entry.out.items new.image back (called_step old new caller number call answer back receipt is) is.comes_back

  -- what a caller can tell of it
  pub hands_back : {A : Type 0} (Agrees : A → Answer → Type 0) (old : LogValue K) (caller number : ℕ) (call : Call (Shape K)) (result : Called (Shape K) K A) (new : LogValue K) → CallsBy means Agrees old caller number call result new → HandsBack Agrees call result
  hands_back Agrees old caller number call (Done has back receipt) new is = (is.0, is.1, called_back old new caller number call is.0 back.items receipt is.2)
  hands_back Agrees old caller number call (NoRoom same) new is = is.0

  -- and what its receipt shows
  pub shows : {A : Type 0} (Agrees : A → Answer → Type 0) (old : LogValue K) (seat : SeatValue) (call : Call (Shape K)) (result : Called (Shape K) K A) (new : LogValue K) → CallsBy means Agrees old seat.caller (seat.calls + 1) call result new → Shows Agrees seat call result
  shows Agrees old seat call (Done has back None) new is = tt
  shows Agrees old seat call (Done has back (Some r)) new is =
      let made = is.2 in
      let enters = made.enters in
      let entry : r.entry ≡ enters.entry = ap (λ (r : ReceiptValue K). r.entry) made.shown in
      let answers : r.entry.answer ≡ is.0 = ap (λ (e : Entry K). e.answer) entry ∙ enters.answers in (
        subst (λ (a : Answer). Agrees has a) (sym answers) is.1,
        record {
          caller = ap (λ (r : ReceiptValue K). r.caller) made.shown;
          number = ap (λ (r : ReceiptValue K). r.number) made.shown;
          by = ap (λ (e : Entry K). e.who) entry ∙ enters.by;
          asked = ap (λ (e : Entry K). asked_of e) entry ∙ (λ i. (enters.at i, enters.has i));
          made = subst (λ (a : Answer). HandsBackMade call a back.items) (sym answers) (called_back old new seat.caller (seat.calls + 1) call is.0 back.items (Some r) made);
          handed = subst (λ (a : Answer). flat_map serial_of back.items ≡ due_back r.entry.event a r.entry.out.items) (sym answers) (subst (λ (e : Entry K). flat_map serial_of back.items ≡ due_back e.event is.0 e.out.items) (sym entry) made.handed);
        },
      )
  shows Agrees old seat call (NoRoom same) new is = tt
