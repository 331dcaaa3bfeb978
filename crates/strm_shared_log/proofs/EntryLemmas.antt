-- From what becomes of a call or a message to an entry of a history.
use Rattle.std.proofs.Common.{◌≡◌, ℕ, ◌≤◌, false, Option, Some, None, List, [], ◌∷◌, ◌++◌, length, refl, sym, ◌∙◌, ap, subst, arith}
use Rattle.std.specs.Prelude.{flat_map}
use Rattle.strm_msg.specs.Message.{Msg}
use Rattle.strm_msg.specs.declared.words.End.{End}
use Rattle.strm_msg.specs.declared.words.End.TheVariants.{A}
use Rattle.strm_module.specs.Kinds.{Meaning}
use Rattle.strm_module.specs.Calm.{IsCalm}
use Rattle.strm_module.specs.declared.shape.Shape.{Shape}
use Rattle.strm_chain_ends.specs.declared.place.Place.{Place}
use Rattle.strm_chain_ends.specs.Image.{Image}
use Rattle.strm_head_calls.specs.declared.request.Request.{Request}
use Rattle.strm_head_calls.specs.declared.answer.Answer.{Answer}
use Rattle.strm_head_calls.specs.declared.answer.Answer.TheVariants.{Done, Refused, Broke}
use Rattle.strm_head_calls.specs.declared.event.Event.{Event}
use Rattle.strm_head_calls.specs.declared.event.Event.TheVariants.{Asked}
use Rattle.strm_head.specs.StepResult.{StepValue, IsLooked, IsBounded}
use Rattle.strm_head_calls.specs.Calls.{changes_modules}
use Rattle.strm_head.specs.Effects.{effect_of, handed_out, back_of, out_of, serials_of}
use Rattle.strm_head.specs.Step.{Step, Lands, arrived_of}
use Rattle.strm_head.proofs.CallLemmas.{plain_out}
use Rattle.strm_shared_entry.specs.Entry.{Entry}
use Rattle.strm_shared_entry.specs.Entry.{serial_of, out_in}
use Rattle.strm_shared_log.specs.Steps.{due_back, IsStep}
use Rattle.strm_shared_log.specs.History.{Legal}
use Rattle.strm_shared_entry.specs.Receipt.{arrival_entry, filled, may_take_out, EntryRoomValue}

-- for kinds of any meaning
module _ {K : Type 0} (means : Meaning K) where
  Legal-append : (image : Image K) (entries : List (Entry K)) (next after : Image K) (entry : Entry K) → Legal means image entries next → IsStep means next entry after → Legal means image (entries ++ entry ∷ []) after
  Legal-append image [] next after entry same step =
      (after, subst (λ (i : Image K). IsStep means i entry after) same step, refl)
  Legal-append image (e ∷ entries) next after entry legal step =
      (legal.0, legal.1, Legal-append legal.0 entries next after entry legal.2 step)

  -- a legal history with one step more
  pub legal_more : (start : Image K) (history longer : List (Entry K)) (next after : Image K) (entry : Entry K) → longer ≡ history ++ entry ∷ [] → Legal means start history next → IsStep means next entry after → Legal means start longer after
  legal_more start history longer next after entry is legal step =
      rw is (Legal-append start history next after entry legal step)

  out_serials : (shapes : List (Shape K)) → flat_map serial_of (handed_out shapes) ≡ serials_of shapes
  out_serials [] = refl
  out_serials (s ∷ shapes) = ap (λ l. s.serial ∷ l) (out_serials shapes)

  out_back : (image : Image K) (e : End) (request : Request (Shape K)) (answer : Answer) → out_in answer (back_of means image e request answer) ≡ out_of means image e request answer
  out_back image e request (Refused refusal) = refl
  out_back image e request (Done reply) = out_serials (effect_of means image e request).out
  out_back image e request Broke = out_serials (effect_of means image e request).out

  none_out : (image : Image K) (e : End) (request : Request (Shape K)) (answer : Answer) → changes_modules request ≡ false → out_of means image e request answer ≡ []
  none_out image e request (Refused refusal) same = refl
  none_out image e request (Done reply) same = ap serials_of (plain_out means image e request same)
  none_out image e request Broke same = ap serials_of (plain_out means image e request same)

  -- of a call that takes no module out there are no serials
  pub no_serials : (image : Image K) (e : End) (request : Request (Shape K)) (answer twin : Answer) (back : List (Option (Shape K))) (event : Event (Shape K)) → event ≡ Asked request → twin ≡ answer → back ≡ back_of means image e request answer → may_take_out event ≡ false → out_in twin back ≡ []
  no_serials image e request answer twin back event asked same is none =
      ap (λ a. out_in a back) same ∙ ap (λ l. out_in answer l) is ∙ out_back image e request answer ∙ none_out image e request answer (sym (ap (λ what. may_take_out what) asked) ∙ none)

  -- a call, with the serials of the modules that came back, and what was asked as its history has it
  pub call_step : (image : Image K) (room : EntryRoomValue K) (e : End) (request : Request (Shape K)) (made : StepValue) (twin : Answer) (moves : List Place) (looks : ℕ) (out : List ℕ) (back : List (Option (Shape K))) (after : Image K) → room.end ≡ e → room.event ≡ Asked request → twin ≡ made.answer → moves ≡ made.moves → looks ≡ made.looks → out ≡ out_in made.answer back → back ≡ back_of means image e request made.answer → Step means image e (Asked request) made.answer made.moves (out_of means image e request made.answer) after → IsLooked made.answer made.moves made.looks → (IsCalm means → IsBounded (effect_of means image e request).image made.answer made.moves made.looks after) → IsStep means image (filled room twin moves looks out) after
  call_step image room e request made twin moves looks out back after at same equal m l o b step looked bound =
      let taken : out ≡ out_of means image e request made.answer = o ∙ ap (λ l. out_in made.answer l) b ∙ out_back image e request made.answer in
      rw (at, same, equal, m, l, taken) (record { by = refl; step = step; looks = looked; bound = bound })

  -- what comes back of a call has the serials that must
  pub call_back : (request : Request (Shape K)) (answer : Answer) (out : List ℕ) (back : List (Option (Shape K))) (image : Image K) (e : End) → out ≡ out_in answer back → back ≡ back_of means image e request answer → flat_map serial_of back ≡ due_back (Asked request) answer out
  call_back request (Refused refusal) out back image e o b = ap (λ l. flat_map serial_of l) b
  call_back request (Done reply) out back image e o b = sym o
  call_back request Broke out back image e o b = sym o

  -- a message that came in is a step
  pub landed_step : (image after : Image K) (m copy : Msg) (answer : Answer) (moves : List Place) (looks : ℕ) (entry : Entry K) → copy ≡ m → entry ≡ arrival_entry copy answer moves looks → Lands means image A m answer moves [] after → IsLooked answer moves looks → (IsCalm means → IsBounded (arrived_of means image A m) answer moves looks after) → IsStep means image entry after
  landed_step image after m copy answer moves looks entry same is lands looked bound =
      rw (is, same) (record { by = refl; step = lands; looks = looked; bound = bound })

-- one module that comes back has one serial
pub serial_length : {K : Type 0} (back : List (Option (Shape K))) → length (flat_map serial_of back) ≤ length back
serial_length [] = omega arith
serial_length (None ∷ back) = let rest = serial_length back in omega arith
serial_length (Some s ∷ back) = let rest = serial_length back in omega arith
