-- From what the parts of a call promise to a step of the stream.
use Rattle.std.specs.Option.{option_or}
use Rattle.std.specs.List.{list_all}
use Rattle.std.proofs.lemmas.Bool.{and_parts}
use Rattle.std.proofs.Common.{◌≡◌, ℕ, suc, zero, not, Bool, true, false, Option, Some, None, List, [], ◌∷◌, refl, sym, ◌∙◌, ap, subst}
use Rattle.strm_msg.specs.declared.words.End.{End}
use Rattle.strm_module.specs.Kinds.{Meaning}
use Rattle.strm_module.specs.declared.shape.Shape.{Shape}
use Rattle.strm_chain_ends.specs.declared.place.Place.{Place}
use Rattle.strm_chain_ends.specs.Image.{Image, end_of}
use Rattle.strm_chain_ends.specs.Flow.{NoneMay}
use Rattle.strm_chain.specs.Fault.{Breaks}
use Rattle.strm_head_calls.specs.declared.request.Request.{Request}
use Rattle.strm_head_calls.specs.declared.request.Request.TheVariants.{Read, Push, Pop, Str, Close, Take, Service, Tick, Poll}
use Rattle.strm_head_calls.specs.declared.refusal.Refusal.{Refusal}
use Rattle.strm_head_calls.specs.Refusal.{first_that_holds}
use Rattle.strm_head_calls.specs.declared.answer.Reply.{Reply}
use Rattle.strm_head_calls.specs.declared.answer.Answer.{Answer}
use Rattle.strm_head_calls.specs.declared.answer.Answer.TheVariants.{Done, Refused, Broke}
use Rattle.strm_msg.specs.declared.errno.Errno.{Errno}
use Rattle.strm_msg.specs.Message.{Msg}
use Rattle.strm_head_calls.specs.Effect.{Effect, effect, effect_ioctl, reply_after}
use Rattle.strm_head_calls.specs.Calls.{changes_modules}
use Rattle.strm_head_calls.specs.Request.{changes_no_queue}
use Rattle.strm_head.specs.Effects.{effect_of, refusal_of, awaits_answer, takes_no_memory_at, changes_first, can_lack_memory, pushed_of, errors_looked_at, error_refusals, closed_refusals, common_refusals, own_refusals, finds_whole, handed_out, back_of, out_of, serials_of, is_no_memory, wants_memory, BreaksNone, takes_no_memory}
use Rattle.strm_head.specs.TakesEffect.{needs_no_service}
use Rattle.strm_head_ioctl.specs.Outside.{take_refusals}
use Rattle.strm_head_service.specs.Serve.{service_refusals}
use Rattle.strm_head_ioctl.proofs.OutsideLemmas.{taken_none, taken_plain}
use Rattle.strm_head.specs.Inside.{IsWholeStream}
use Rattle.strm_head.specs.Step.{Answers, Finishes, SettlesUnless, answered_if}
use Rattle.strm_head.proofs.RefusalLemmas.{first_of_all}
use Rattle.strm_head.proofs.KeptLemmas.{whole_of, effect_opens}
use Rattle.strm_head.proofs.NothingLemmas.{served_takes, ioctl_sends, unserved_effect}

-- ---- what a call takes out and awaits

not_true : (b : Bool) → not b ≡ true → b ≡ false
not_true false h = refl
not_true true h = absurd cc

-- a call that changes nothing before it takes memory changes no modules
first_plain : {P : Type 0} (request : Request P) → changes_first request ≡ false → changes_modules request ≡ false
first_plain (Tick ticks) h = refl
first_plain request h = h

-- nor does one that want of memory can refuse
lacks_plain : {P : Type 0} (request : Request P) → can_lack_memory request ≡ true → changes_modules request ≡ false
lacks_plain request can =
    first_plain request (not_true (changes_first request) ((and_parts (not (takes_no_memory request)) (not (changes_first request)) can).1))

-- for kinds of any meaning
module _ {K : Type 0} (means : Meaning K) where
  -- a call that changes no modules takes none out
  pub plain_out : (image : Image K) (e : End) (request : Request (Shape K)) → changes_modules request ≡ false → (effect_of means image e request).out ≡ []
  plain_out image e (Read zero) plain = refl
  plain_out image e Pop plain = cc
  plain_out image e Close plain = cc
  plain_out image e Take plain = taken_none image e (end_of image e).drv
  plain_out image e request plain = refl

  -- a call that want of memory can refuse has taken no module out, and was handed none
  none_out : (image : Image K) (e : End) (request : Request (Shape K)) → can_lack_memory request ≡ true → (effect_of means image e request).out ≡ []
  none_out image e request can = plain_out image e request (lacks_plain request can)

  none_pushed : (request : Request (Shape K)) → can_lack_memory request ≡ true → pushed_of request ≡ []
  none_pushed (Push shape) can = cc
  none_pushed request can = refl

  -- the calls that await an answer are those that say so
  awaits_of : (image : Image K) (e : End) (request : Request (Shape K)) → (effect_of means image e request).awaits ≡ awaits_answer request
  awaits_of image e (Read zero) = refl
  awaits_of image e (Str cmd dat) = refl
  awaits_of image e Take = taken_plain image e (end_of image e).drv
  awaits_of image e request = refl

  ioctl_of : (image : Image K) (e : End) (request : Request (Shape K)) → awaits_answer request ≡ true → effect_of means image e request ≡ effect_ioctl (effect_of means image e request).image
  ioctl_of image e (Str cmd dat) awaits = refl
  ioctl_of image e request awaits = cc

  -- a call that awaits an answer finds a stream that is not broken
  awaits_finds : (request : Request (Shape K)) → awaits_answer request ≡ true → finds_whole request ≡ true
  awaits_finds (Str cmd dat) awaits = refl
  awaits_finds request awaits = cc

  pub ioctl_whole : (image : Image K) (e : End) (request : Request (Shape K)) (new : Image K) → refusal_of means image e request ≡ None → awaits_answer request ≡ true → new ≡ (effect_of means image e request).image → new.broken ≡ false
  ioctl_whole image e request new unrefused awaits is =
      ap (λ (i : Image K). i.broken) is ∙ (effect_opens means image e request).broken ∙ whole_of means image e request unrefused (awaits_finds request awaits)

  -- ---- the answer of a call

  plain_reply : (b : Effect (Image K) K) (kept : Option Msg) → b.awaits ≡ false → reply_after b kept ≡ b.reply
  plain_reply b kept h = rw h refl

  -- what was begun and finished, where the modules that were taken out are known
  with_out : (e : End) (b : Effect (Image K) K) (new : Image K) (reply : Reply) (answer : Answer) (moves : List Place) (after : Image K) → new ≡ b.image → reply ≡ b.reply → b.awaits ≡ false → Finishes means e (effect new reply) answer moves [] after → Finishes means e b answer moves (serials_of b.out) after
  with_out e b new reply (Refused refusal) moves after i r plain finishes = absurd finishes
  with_out e b new reply (Done said) moves after i r plain done =
      record {
        settled = done.settled;
        settles = subst (λ (image : Image K). SettlesUnless means image.broken image moves done.settled) i done.settles;
        replies = done.replies ∙ r ∙ sym (plain_reply b _ plain);
        leaves = done.leaves ∙ ap (λ a. answered_if a e done.settled) (sym plain);
        takes = refl;
      }
  with_out e b new reply Broke moves after i r plain broke =
      record { breaks = subst (λ (image : Image K). Breaks image after) i broke.breaks; stays = broke.stays; takes = refl }

  -- the same of an ioctl
  ioctl_out : (e : End) (b : Effect (Image K) K) (new : Image K) (answer : Answer) (moves : List Place) (after : Image K) → new ≡ b.image → b ≡ effect_ioctl b.image → Finishes means e (effect_ioctl new) answer moves [] after → Finishes means e b answer moves (serials_of b.out) after
  ioctl_out e b new answer moves after i is finishes =
      let same : effect_ioctl new ≡ b = ap (λ image. effect_ioctl image) i ∙ sym is in
      let none : b.out ≡ [] = ap (λ (x : Effect (Image K) K). x.out) is in
      subst (λ o. Finishes means e b answer moves (serials_of o) after) (sym none)
      (subst (λ x. Finishes means e x answer moves [] after) same finishes)

  from_effect : (image : Image K) (e : End) (request : Request (Shape K)) (answer : Answer) (moves : List Place) (after : Image K) → refusal_of means image e request ≡ None → changes_no_queue request ≡ false → (answer ≡ Broke → image.broken ≡ false) → Finishes means e (effect_of means image e request) answer moves (serials_of (effect_of means image e request).out) after → Answers means image e request answer moves (out_of means image e request answer) after
  from_effect image e request (Refused refusal) moves after unrefused changes whole finishes = absurd finishes
  from_effect image e request (Done reply) moves after unrefused changes whole finishes =
      (unrefused, (λ quiet. absurd (let no : true ≡ false = sym quiet ∙ changes in cc)), finishes)
  from_effect image e request Broke moves after unrefused changes whole finishes = (unrefused, changes, whole refl, finishes)

  -- a call that was begun and finished
  pub finished_answers : (image : Image K) (e : End) (request : Request (Shape K)) (new : Image K) (reply : Reply) (answer : Answer) (moves : List Place) (after : Image K) → refusal_of means image e request ≡ None → changes_no_queue request ≡ false → awaits_answer request ≡ false → new ≡ (effect_of means image e request).image → reply ≡ (effect_of means image e request).reply → (answer ≡ Broke → new.broken ≡ false) → Finishes means e (effect new reply) answer moves [] after → Answers means image e request answer moves (out_of means image e request answer) after
  finished_answers image e request new reply answer moves after unrefused changes plain i r whole finishes =
      from_effect image e request answer moves after unrefused changes
      (λ broke. sym (effect_opens means image e request).broken ∙ ap (λ (x : Image K). x.broken) (sym i) ∙ whole broke)
      (with_out e (effect_of means image e request) new reply answer moves after i r (awaits_of image e request ∙ plain) finishes)

  -- an ioctl that was sent and has its answer
  pub ioctl_answers : (image : Image K) (e : End) (request : Request (Shape K)) (new : Image K) (answer : Answer) (moves : List Place) (after : Image K) → refusal_of means image e request ≡ None → changes_no_queue request ≡ false → awaits_answer request ≡ true → new ≡ (effect_of means image e request).image → Finishes means e (effect_ioctl new) answer moves [] after → Answers means image e request answer moves (out_of means image e request answer) after
  ioctl_answers image e request new answer moves after unrefused changes awaits i finishes =
      from_effect image e request answer moves after unrefused changes
      (λ broke. whole_of means image e request unrefused (awaits_finds request awaits))
      (ioctl_out e (effect_of means image e request) new answer moves after i (ioctl_of image e request awaits) finishes)

  -- a stream where nothing happens is quiet, or broken as it was
  still_if : (image : Image K) (broken : Bool) → image.broken ≡ broken → IsWholeStream means image → SettlesUnless means broken image [] image
  still_if image true is kept = record { stays = refl; unchanged = refl }
  still_if image false is kept = record { leads = refl; quiet = kept.quiet is }

  -- a call that no service follows is finished when it was begun
  pub quiet_answers : (image : Image K) (e : End) (request : Request (Shape K)) (reply : Reply) (answer : Answer) (moves : List Place) (after : Image K) → IsWholeStream means image → refusal_of means image e request ≡ None → needs_no_service image e request ≡ true → after ≡ (effect_of means image e request).image → reply ≡ (effect_of means image e request).reply → answer ≡ Done reply → moves ≡ [] → Answers means image e request answer moves (out_of means image e request answer) after
  quiet_answers image e Close reply answer moves after kept unrefused is i r a m = cc
  quiet_answers image e Poll reply answer moves after kept unrefused is i r a m =
      let settles : SettlesUnless means image.broken image [] image = still_if image image.broken refl kept in
      rw (a, m, i)
      (unrefused, (λ quiet. refl), record { settled = image; settles = settles; replies = r; leaves = refl; takes = refl })
  quiet_answers image e request reply answer moves after kept unrefused is i r a m =
      let whole = whole_of means image e request unrefused refl in
      let b = effect_of means image e request in
      let quiet = unserved_effect means image e request is (kept.quiet whole) in
      let settles : SettlesUnless means b.image.broken b.image [] b.image = subst (λ (x : Bool). SettlesUnless means x b.image [] b.image) (sym (quiet.broken ∙ whole)) (record { leads = refl; quiet = quiet.quiet }) in
      rw (a, m, i)
      (unrefused, (λ quiet. refl), record { settled = b.image; settles = settles; replies = r ∙ sym (plain_reply b (end_of b.image e).state.kept quiet.awaits); leaves = ap (λ x. answered_if x e b.image) (sym quiet.awaits); takes = refl })

  -- ---- what comes back, and what does not fail

  -- what comes back of a call that was finished
  pub finished_back : (image : Image K) (e : End) (request : Request (Shape K)) (back : List (Option (Shape K))) (b : Effect (Image K) K) (answer : Answer) (moves : List Place) (out : List ℕ) (after : Image K) → back ≡ handed_out (effect_of means image e request).out → Finishes means e b answer moves out after → back ≡ back_of means image e request answer
  finished_back image e request back b (Refused refusal) moves out after is finishes = absurd finishes
  finished_back image e request back b (Done reply) moves out after is finishes = is
  finished_back image e request back b Broke moves out after is finishes = is

  -- and of one that want of memory refuses
  pub refused_back : (image : Image K) (e : End) (request : Request (Shape K)) (back : List (Option (Shape K))) (answer : Answer) (refusal : Refusal) → can_lack_memory request ≡ true → back ≡ handed_out (effect_of means image e request).out → answer ≡ Refused refusal → back ≡ back_of means image e request answer
  refused_back image e request back answer refusal can is a =
      rw (a, is, none_out image e request can, none_pushed request can) refl

  -- a call that a service follows takes memory
  pub served_memory : (image : Image K) (e : End) (request : Request (Shape K)) (answer : Answer) → needs_no_service image e request ≡ false → takes_no_memory_at image e request ≡ true → wants_memory answer ≡ false
  served_memory image e request answer needs none =
      absurd (let no : true ≡ false = sym none ∙ served_takes image e request needs in cc)

  -- an ioctl sends a message
  pub ioctl_still : (image : Image K) (e : End) (request : Request (Shape K)) (answer : Answer) → awaits_answer request ≡ true → BreaksNone means image e request answer
  ioctl_still image e request answer awaits sends none broke =
      let no : true ≡ false = sym sends ∙ ioctl_sends image e request awaits in cc

  -- where no place may move once a call has begun, its services break nothing
  pub finished_still : (image : Image K) (e : End) (request : Request (Shape K)) (new : Image K) (answer : Answer) → new ≡ (effect_of means image e request).image → (NoneMay means new → answer ≡ Broke → ⊥) → BreaksNone means image e request answer
  finished_still image e request new answer is still sends none =
      still (subst (λ (i : Image K). NoneMay means i) (sym is) none)

-- ---- refusals that are not for want of memory

-- a refusal that is not for want of memory, if it is one
abbrev IsNotMemory : Option Refusal → Type 0
IsNotMemory found = (refusal : Refusal) → found ≡ Some refusal → wants_memory (Refused refusal) ≡ false

-- no refusal of a list is want of memory
abbrev are_other : List (Bool × Refusal) → Bool
are_other rows = list_all (λ row. not (is_no_memory row.1)) rows

rows_not_memory : (rows : List (Bool × Refusal)) → are_other rows ≡ true → IsNotMemory (first_that_holds rows)
rows_not_memory [] others refusal is = absurd cc
rows_not_memory ((true, first) ∷ rows) others refusal is =
    let same : first ≡ refusal = cc in
    subst (λ r. wants_memory (Refused r) ≡ false) same (not_true (is_no_memory first) (and_parts (not (is_no_memory first)) (are_other rows) others).0)
rows_not_memory ((false, first) ∷ rows) others refusal is =
    rows_not_memory rows ((and_parts (not (is_no_memory first)) (are_other rows) others).1) refusal is

or_not_memory : (first later : Option Refusal) → IsNotMemory first → IsNotMemory later → IsNotMemory (option_or first later)
or_not_memory None later p q refusal is = q refusal is
or_not_memory (Some r) later p q refusal is = p refusal is

error_are_other : (looks : Bool × Bool) (rd wr : Option Errno) → are_other (error_refusals looks rd wr) ≡ true
error_are_other looks None None = refl
error_are_other looks None (Some errno) = refl
error_are_other looks (Some errno) None = refl
error_are_other looks (Some errno) (Some other) = refl

own_are_other : {K : Type 0} (means : Meaning K) (image : Image K) (e : End) (request : Request (Shape K)) → are_other (own_refusals means image e request) ≡ true
own_are_other means image e (Read zero) = refl
own_are_other means image e (Read (suc n)) = refl
own_are_other means image e request = refl

-- the first refusal that holds of a call is not want of memory
pub refused_memory : {K : Type 0} (means : Meaning K) (image : Image K) (e : End) (request : Request (Shape K)) (refusal : Refusal) → refusal_of means image e request ≡ Some refusal → wants_memory (Refused refusal) ≡ false
refused_memory means image e Close refusal is = rows_not_memory (closed_refusals image e) refl refusal is
refused_memory means image e Take refusal is = rows_not_memory (take_refusals image e) refl refusal is
refused_memory means image e (Service name side call) refusal is = rows_not_memory (service_refusals image e name.items side call) refl refusal is
refused_memory means image e Poll refusal is = cc
refused_memory means image e request refusal is =
    let state = (end_of image e).state in
    or_not_memory (first_that_holds (common_refusals image e request)) (first_that_holds (own_refusals means image e request)) (rows_not_memory (common_refusals image e request) (error_are_other (errors_looked_at request) state.rd_errno state.wr_errno)) (rows_not_memory (own_refusals means image e request) (own_are_other means image e request)) refusal (sym (first_of_all means image e request refl) ∙ is)
