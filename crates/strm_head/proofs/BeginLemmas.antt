-- What a call that is not refused may count on when it begins.
use Rattle.std.proofs.Common.{◌≡◌, ℕ, not, Bool, true, false, None, List, ◌∷◌, Result, Ok, Err, IfOk, IsOk, OnOk, IfErr, OnErr, refl, sym, ◌∙◌, rules}
use Rattle.std.proofs.lemmas.Bool.{false_from_ne_true}
use Rattle.arrayvec.specs.ArrayVec.{ArrayVec}
use Rattle.strm_msg.specs.declared.words.End.{End}
use Rattle.strm_msg.specs.declared.words.Side.{Side}
use Rattle.strm_module.specs.declared.shape.Shape.{Shape}
use Rattle.strm_module.specs.Driver.{has_end}
use Rattle.strm_chain_ends.specs.Image.{Image, end_of}
use Rattle.strm_chain.specs.Deliver.{is_there}
use Rattle.strm_chain.specs.declared.spot.Spot.TheVariants.{Down}
use Rattle.strm_head_calls.specs.declared.request.Request.{Request}
use Rattle.strm_head_calls.specs.declared.request.Request.TheVariants.{Close, Take, Service, Poll}
use Rattle.strm_head_calls.specs.declared.refusal.Refusal.{Refusal}
use Rattle.strm_head_calls.specs.declared.refusal.Refusal.TheVariants.{Closed, Broken}
use Rattle.strm_head_calls.specs.Refusal.{first_that_holds}
use Rattle.strm_head_calls.specs.Request.{changes_no_queue}
use Rattle.strm_head_calls.specs.Service.{is_question}
use Rattle.strm_head_calls.specs.declared.service.ServiceCall.{ServiceCall}
use Rattle.strm_head_service.specs.Serve.{service_refusals, service_effect, sends_on, finds_nothing}
use Rattle.strm_head_service.proofs.ServeLemmas.{unrefused}
use Rattle.strm_head.specs.Effects.{refusal_of, effect_of, errors_at, common_refusals, own_refusals, is_common, finds_whole, takes_no_memory_at, sends_no_message, can_lack_memory}
use Rattle.strm_chain.specs.declared.fault.ChainFault.{ChainFault}
use Rattle.strm_chain.specs.declared.fault.ChainFault.TheVariants as Faults
use Rattle.strm_head_calls.specs.declared.answer.Reply.{Reply}
use Rattle.strm_chain.specs.Fault.{Fails}
use Rattle.strm_head_calls.specs.Reply.{has_bytes}
use Rattle.strm_head_calls.specs.ReplyForm.{said}
use Rattle.strm_module.specs.Kinds.{Meaning}
use Rattle.strm_head.specs.TakesEffect.{CanSend, MayBegin, TakesEffect, taken_or, done_or}
use Rattle.strm_head.specs.Inside.{IsWholeStream}
use Rattle.strm_head.proofs.RefusalLemmas.{first_of_all}
use Rattle.strm_head.proofs.KeptLemmas.{whole_of, none_before}

open_if : (opened broken : Bool) (errors : List (Bool × Refusal)) → first_that_holds ((not opened, Closed) ∷ (broken, Broken) ∷ errors) ≡ None → opened ≡ true
open_if true broken errors h = refl
open_if false broken errors h = cc

there_of : {K : Type 0} (image : Image K) (e : End) → has_end image.driver e ≡ true → is_there image (Down e 1) ≡ true
there_of image e h = rw h (search rules)

-- none of those that all calls but a close share, and none of its own
ready_of : {K : Type 0} (means : Meaning K) (image : Image K) (e : End) (request : Request (Shape K)) → IsWholeStream means image → refusal_of means image e request ≡ None → is_common request ≡ true → finds_whole request ≡ true → CanSend image e
ready_of means image e request kept h other finds =
    let whole = whole_of means image e request h finds in
    let common = none_before (first_that_holds (common_refusals image e request)) (first_that_holds (own_refusals means image e request)) (sym (first_of_all means image e request other) ∙ h) in
    record {
      there = there_of image e (kept.ends e (open_if (end_of image e).is_open image.broken (errors_at image e request) common));
      whole = whole;
      idle = kept.idle whole e;
    }

pub may_begin : {K : Type 0} (means : Meaning K) (image : Image K) (e : End) (request : Request (Shape K)) → IsWholeStream means image → refusal_of means image e request ≡ None → MayBegin image e request
may_begin means image e Close kept h = kept.ends
may_begin means image e (Service name side call) kept h = kept.ends
may_begin means image e Take kept h = tt
may_begin means image e Poll kept h = tt
may_begin means image e request kept h = ready_of means image e request kept h refl refl

-- what is promised where something is none, and was not met
is_given : (none : Bool) → (none ≡ true → false ≡ true) → none ≡ false
is_given none met = false_from_ne_true none (λ is. let no : false ≡ true = met is in cc)

-- a reply that is one without bytes, if there is one
pub bare_reply : {X : Type 0} (r : Result Reply X) (reply : Reply) → IfOk r (λ it. it ≡ reply) → has_bytes reply ≡ false → IfOk r (λ it. has_bytes it ≡ false)
bare_reply (Ok it) reply is bare = rw is bare
bare_reply (Err fault) reply is bare = tt

-- for kinds of any meaning
module _ {K : Type 0} (means : Meaning K) where
  -- a call that sends
  pub sent_begins : (image : Image K) (e : End) (request : Request (Shape K)) (r : Result Reply ChainFault) (after : Image K) → IfOk r (λ reply. reply ≡ (effect_of means image e request).reply) → OnOk r (after ≡ (effect_of means image e request).image) → IfErr r (λ fault. Fails fault image (effect_of means image e request).image after) → (takes_no_memory_at image e request ≡ true → IsOk r) → (sends_no_message image e request ≡ true → IsOk r) → can_lack_memory request ≡ true → changes_no_queue request ≡ false → image.broken ≡ false → TakesEffect means image e request r after
  sent_begins image e request (Ok reply) after same i f takes sends can changes whole = record { reply_is = same; image_is = i }
  sent_begins image e request (Err fault) after same i f takes sends can changes whole = record {
    fails = f;
    takes = is_given (takes_no_memory_at image e request) takes;
    refused = λ is. can;
    broken = λ is. changes;
    sends = λ is. is_given (sends_no_message image e request) sends;
    whole = whole;
  }

  -- a call that sends, and whose reply is known before
  pub done_begins : {X : Type 0} (image : Image K) (e : End) (request : Request (Shape K)) (r : Result X ChainFault) (reply : Reply) (after : Image K) → reply ≡ (effect_of means image e request).reply → OnOk r (after ≡ (effect_of means image e request).image) → IfErr r (λ fault. Fails fault image (effect_of means image e request).image after) → takes_no_memory_at image e request ≡ false → sends_no_message image e request ≡ false → can_lack_memory request ≡ true → changes_no_queue request ≡ false → image.broken ≡ false → TakesEffect means image e request (done_or r reply) after
  done_begins image e request (Ok done) reply after same i f takes sends can changes whole = record { reply_is = same; image_is = i }
  done_begins image e request (Err fault) reply after same i f takes sends can changes whole = record {
    fails = f;
    takes = takes;
    refused = λ is. can;
    broken = λ is. changes;
    sends = λ is. sends;
    whole = whole;
  }

  -- a call that takes what waits at the head
  pub taken_begins : {A X : Type 0} (image : Image K) (e : End) (request : Request (Shape K)) (says : A → Reply) (r : Result A X) (after : Image K) → IfOk r (λ made. says made ≡ (effect_of means image e request).reply) → OnOk r (after ≡ (effect_of means image e request).image) → OnErr r (after ≡ image) → (takes_no_memory_at image e request ≡ true → IsOk r) → can_lack_memory request ≡ true → image.broken ≡ false → TakesEffect means image e request (taken_or (said says r)) after
  taken_begins image e request says (Ok made) after same i u takes can whole = record { reply_is = same; image_is = i }
  taken_begins image e request says (Err wanting) after same i u takes can whole = record {
    fails = u;
    takes = is_given (takes_no_memory_at image e request) takes;
    refused = λ is. can;
    broken = λ is. cc;
    sends = λ is. cc;
    whole = whole;
  }

  -- a call that shows it
  pub seen_begins : {X : Type 0} (image : Image K) (e : End) (request : Request (Shape K)) (shown twins : Result Reply X) → IfOk twins (λ reply. shown ≡ Ok reply) → IfOk shown (λ reply. reply ≡ (effect_of means image e request).reply) → image ≡ (effect_of means image e request).image → (takes_no_memory_at image e request ≡ true → IsOk twins) → can_lack_memory request ≡ true → image.broken ≡ false → TakesEffect means image e request (taken_or twins) image
  seen_begins image e request shown (Ok reply) is same i takes can whole = record { reply_is = rw is at same; image_is = i }
  seen_begins image e request shown (Err wanting) is same i takes can whole = record {
    fails = refl;
    takes = is_given (takes_no_memory_at image e request) takes;
    refused = λ is. can;
    broken = λ is. cc;
    sends = λ is. cc;
    whole = whole;
  }

  -- a service call that changes queues
  pub served_begins : {A : Type 0} (image : Image K) (e : End) (name : ArrayVec ℕ) (side : Side) (call : ServiceCall) (says : A → Reply) (r : Result A ChainFault) (after : Image K) → first_that_holds (service_refusals image e name.items side call) ≡ None → is_question call ≡ false → IfOk r (λ made. says made ≡ (service_effect means image e name.items side call).reply) → OnOk r (after ≡ (service_effect means image e name.items side call).image) → IfErr r (λ fault. Fails fault image (service_effect means image e name.items side call).image after) → IfErr r (λ fault. fault ≡ Faults.Broken → sends_on call ≡ true) → (finds_nothing image e name.items call ≡ true → IsOk r) → TakesEffect means image e (Service name side call) (said says r) after
  served_begins image e name side call says (Ok made) after own changes same i fails breaks nothing = record { reply_is = same; image_is = i }
  served_begins image e name side call says (Err fault) after own changes same i fails breaks nothing = record {
    fails = fails;
    takes = rw changes (is_given (finds_nothing image e name.items call) nothing);
    refused = λ is. rw changes refl;
    broken = λ is. changes;
    sends = λ is. rw (breaks is) refl;
    whole = (unrefused image e name.items side call own).whole;
  }
