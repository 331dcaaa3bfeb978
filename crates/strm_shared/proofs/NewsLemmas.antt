-- Steps that are no news leave the stream as it is.
use Rattle.std.proofs.Common.{◌≡◌, ℕ, ◌++◌, List, [], ◌∷◌, Option, Bool, true, false, length, drop, refl, sym, ◌∙◌, ap, subst, append-nil, append_assoc, inl, inr}
use Rattle.std.specs.Prelude.{◌||◌, not, Any}
use Rattle.std.specs.List.{list_any}
use Rattle.std.proofs.lemmas.List.Folds.{Any-from_list_any}
use Rattle.std.proofs.Math.Seq.{drop-append_seam}
use Rattle.strm_msg.specs.Message.{Msg}
use Rattle.strm_msg.specs.declared.words.End.{End}
use Rattle.strm_module.specs.Kinds.{Meaning}
use Rattle.strm_module.specs.declared.shape.Shape.{Shape}
use Rattle.strm_chain_ends.specs.declared.place.Place.{Place}
use Rattle.strm_chain_ends.specs.Image.{Image}
use Rattle.strm_head_calls.specs.declared.request.Request.{Request}
use Rattle.strm_head_calls.specs.declared.request.Request.TheVariants.{Nread, Peek, GetRead, Canput, Ckband, Getband, Look, Find, Poll}
use Rattle.strm_head_calls.specs.Request.{changes_no_queue}
use Rattle.strm_head_calls.specs.declared.answer.Answer.{Answer}
use Rattle.strm_head_calls.specs.declared.answer.Answer.TheVariants as Answers
use Rattle.strm_head_calls.specs.declared.call.Call.{Call}
use Rattle.strm_head_calls.specs.declared.event.Event.{Event}
use Rattle.strm_head_calls.specs.declared.event.Event.TheVariants.{Asked, Arrived}
use Rattle.strm_head.specs.Effects.{effect_of}
use Rattle.strm_head.specs.Step.{answered_if, Answers as AnswersOf, SettlesUnless, Step}
use Rattle.strm_shared_entry.specs.declared.entry.Who.{Who}
use Rattle.strm_shared_entry.specs.Entry.{Entry}
use Rattle.strm_shared_entry.specs.declared.call.Called.{Called}
use Rattle.strm_shared_entry.specs.declared.call.Called.TheVariants.{Done, NoRoom}
use Rattle.strm_shared_log.specs.History.{Legal}
use Rattle.strm_shared_log.specs.Log.{LogValue, CallsBy, Enters, IsSameLog}
use Rattle.strm_shared.specs.Arrivals.{CallsAfter, ComesBack, Finds, TakesIn}
use Rattle.strm_shared.specs.Waiting.{changes_by, may_change, only_looks, HasNews}

-- ---- tests

or_parts : (a b : Bool) → (a || b) ≡ false → (a ≡ false) × (b ≡ false)
or_parts true b none = absurd cc
or_parts false b none = (refl, none)

none_false : (b : Bool) → (b ≡ true → ⊥) → b ≡ false
none_false true none = absurd (none refl)
none_false false none = refl

not_false : (b : Bool) → not b ≡ false → b ≡ true
not_false true none = refl
not_false false none = absurd cc

-- for kinds of any meaning
module _ {K : Type 0} (means : Meaning K) where
  -- ---- one step

  -- a call that only looks begins with no change, awaits nothing, and moves nothing
  record LooksAt (image : Image K) (e : End) (request : Request (Shape K)) : Type 0 where
    leaves : (effect_of means image e request).image ≡ image
    awaits_none : (effect_of means image e request).awaits ≡ false
    moves_none : changes_no_queue request ≡ true

  looks_at : (image : Image K) (e : End) (request : Request (Shape K)) → only_looks request ≡ true → LooksAt image e request
  looks_at image e Nread looks = record { leaves = refl; awaits_none = refl; moves_none = refl }
  looks_at image e (Peek maxctl maxdat flag) looks = record { leaves = refl; awaits_none = refl; moves_none = refl }
  looks_at image e GetRead looks = record { leaves = refl; awaits_none = refl; moves_none = refl }
  looks_at image e (Canput band) looks = record { leaves = refl; awaits_none = refl; moves_none = refl }
  looks_at image e (Ckband band) looks = record { leaves = refl; awaits_none = refl; moves_none = refl }
  looks_at image e Getband looks = record { leaves = refl; awaits_none = refl; moves_none = refl }
  looks_at image e Look looks = record { leaves = refl; awaits_none = refl; moves_none = refl }
  looks_at image e Request.List looks = record { leaves = refl; awaits_none = refl; moves_none = refl }
  looks_at image e (Find name) looks = record { leaves = refl; awaits_none = refl; moves_none = refl }
  looks_at image e Poll looks = record { leaves = refl; awaits_none = refl; moves_none = refl }
  looks_at image e request looks = absurd cc

  settled_same : (broken : Bool) (image settled : Image K) → SettlesUnless means broken image [] settled → settled ≡ image
  settled_same true image settled settles = settles.unchanged
  settled_same false image settled settles = settles.leads

  quiet_call : (image : Image K) (e : End) (request : Request (Shape K)) (answer : Answer) (moves : List Place) (out : List ℕ) (after : Image K) → AnswersOf means image e request answer moves out after → changes_by (Asked request) answer ≡ false → after ≡ image
  quiet_call image e request (Answers.Refused refusal) moves out after step quiet = step.unchanged
  quiet_call image e request (Answers.Done reply) moves out after step quiet =
      let looks = looks_at image e request (not_false _ quiet) in
      let begun = effect_of means image e request in
      let done = step.2 in
      let settles : SettlesUnless means begun.image.broken begun.image [] done.settled = subst (λ (m : List Place). SettlesUnless means begun.image.broken begun.image m done.settled) (step.1 looks.moves_none) done.settles in
      let leaves : after ≡ done.settled = subst (λ (b : Bool). after ≡ answered_if b e done.settled) looks.awaits_none done.leaves in
      leaves ∙ settled_same begun.image.broken begun.image done.settled settles ∙ looks.leaves
  quiet_call image e request Answers.Broke moves out after step quiet =
      let looks = looks_at image e request (not_false _ quiet) in
      let none : changes_no_queue request ≡ false = step.1 in
      absurd cc

  quiet_step : (image : Image K) (e : End) (event : Event (Shape K)) (answer : Answer) (moves : List Place) (out : List ℕ) (after : Image K) → Step means image e event answer moves out after → changes_by event answer ≡ false → after ≡ image
  quiet_step image e (Asked request) answer moves out after step quiet = quiet_call image e request answer moves out after step quiet
  quiet_step image e (Arrived m) (Answers.Refused refusal) moves out after step quiet = absurd step
  quiet_step image e (Arrived m) (Answers.Done reply) moves out after step quiet = absurd cc
  quiet_step image e (Arrived m) Answers.Broke moves out after step quiet = absurd cc

  -- ---- steps one after another

  quiet_legal : (image : Image K) (steps : List (Entry K)) (after : Image K) → Legal means image steps after → list_any may_change steps ≡ false → after ≡ image
  quiet_legal image [] after legal quiet = legal
  quiet_legal image (entry ∷ rest) after legal quiet =
      let none = or_parts (may_change entry) (list_any may_change rest) quiet in
      quiet_legal legal.0 rest after legal.2 none.1 ∙ quiet_step image entry.end entry.event entry.answer entry.moves entry.out.items legal.0 legal.1.step none.0

  legal_then : (image : Image K) (first second : List (Entry K)) (between after : Image K) → Legal means image first between → Legal means between second after → Legal means image (first ++ second) after
  legal_then image [] second between after is legal = subst (λ (i : Image K). Legal means i second after) is legal
  legal_then image (entry ∷ rest) second between after is legal = (is.0, is.1, legal_then is.0 rest second between after is.2 legal)

  -- steps were made, which are kept behind those that were
  record Grows (old new : LogValue K) : Type 0 where
    steps : List (Entry K)
    kept : new.kept ≡ old.kept ++ steps
    legal : Legal means old.image steps new.image

  grows_same : (old new : LogValue K) → IsSameLog old new → Grows old new
  grows_same old new same = record { steps = []; kept = same.kept ∙ sym (append-nil old.kept); legal = same.image }

  grows_enters : (old new : LogValue K) (maker : Who) (at_end : End) (happened : Event (Shape K)) (answered : Answer) → Enters means old maker at_end happened answered new → Grows old new
  grows_enters old new maker at_end happened answered enters = record { steps = enters.entry ∷ []; kept = enters.kept; legal = (new.image, enters.step, refl) }

  grows_then : (old between new : LogValue K) → Grows old between → Grows between new → Grows old new
  grows_then old between new first second = record {
    steps = first.steps ++ second.steps;
    kept = second.kept ∙ ap (λ (l : List (Entry K)). l ++ second.steps) first.kept ∙ append_assoc old.kept first.steps second.steps;
    legal = legal_then old.image first.steps second.steps between.image new.image first.legal second.legal;
  }

  grows_takes : (old new : LogValue K) (came : List Msg) → TakesIn means old came new → Grows old new
  grows_takes old new [] takes = grows_same old new takes
  grows_takes old new (m ∷ rest) takes =
      grows_then old takes.0 new (grows_enters old takes.0 _ _ _ takes.1.answer takes.1.enters) (grows_takes takes.0 new rest takes.2)

  grows_call : {A : Type 0} (Agrees : A → Answer → Type 0) (old : LogValue K) (caller number : ℕ) (call : Call (Shape K)) (result : Called (Shape K) K A) (new : LogValue K) → CallsBy means Agrees old caller number call result new → Grows old new
  grows_call Agrees old caller number call (Done has back receipt) new by = grows_enters old new _ _ _ by.0 by.2.enters
  grows_call Agrees old caller number call (NoRoom same) new by = grows_same old new by.1

  grows_back : (old before : LogValue K) (held : Option Msg) → ComesBack means old before held → Grows old before
  grows_back old before held (inl same) = grows_same old before same
  grows_back old before held (inr all) = grows_takes old before all.comes.came all.comes.takes

  grows_found : {A : Type 0} (old : LogValue K) (result : Called (Shape K) K A) (before : LogValue K) (held : Option Msg) → Finds means old result before held → Grows old before
  grows_found old (Done has back receipt) before held all = grows_takes old before all.comes.came all.comes.takes
  grows_found old (NoRoom same) before held back = grows_back old before held back

  quiet_grows : (old new : LogValue K) → Grows old new → (HasNews (length old.kept) new.kept → ⊥) → new.image ≡ old.image
  quiet_grows old new grows none =
      let is : drop (length old.kept) new.kept ≡ grows.steps = ap (λ (l : List (Entry K)). drop (length old.kept) l) grows.kept ∙ drop-append_seam old.kept grows.steps in
      let quiet : list_any may_change grows.steps ≡ false = none_false _ (λ some. none (subst (λ (l : List (Entry K)). Any (λ e. may_change e ≡ true) l) (sym is) (Any-from_list_any may_change grows.steps some))) in
      quiet_legal old.image grows.steps new.image grows.legal quiet

  -- a call after messages that came in
  pub quiet_after : {A : Type 0} (Agrees : A → Answer → Type 0) (old : LogValue K) (caller number : ℕ) (call : Call (Shape K)) (result : Called (Shape K) K A) (new : LogValue K) (held : Option Msg) → CallsAfter means Agrees old caller number call result new held → (HasNews (length old.kept) new.kept → ⊥) → new.image ≡ old.image
  quiet_after Agrees old caller number call result new held after none =
      quiet_grows old new (grows_then old after.before new (grows_found old result after.before held after.finds) (grows_call Agrees after.before caller number call result new after.calls)) none
