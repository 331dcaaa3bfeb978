-- What a call and an arrival leave, as the history then is.
use Rattle.std.proofs.Common.{◌≡◌, ℕ, ◌++◌, List, [], ◌∷◌, Option, refl, sym, ◌∙◌}
use Rattle.std.specs.Prelude.{IfSome}
use Rattle.strm_msg.specs.Message.{Msg}
use Rattle.strm_msg.specs.declared.words.End.TheVariants.{A}
use Rattle.strm_module.specs.Kinds.{Meaning}
use Rattle.strm_module.specs.Calm.{IsCalm}
use Rattle.strm_module.specs.declared.shape.Shape.{Shape}
use Rattle.strm_chain_ends.specs.declared.place.Place.{Place}
use Rattle.strm_head_calls.specs.declared.answer.Answer.{Answer}
use Rattle.strm_head_calls.specs.declared.call.Call.{Call}
use Rattle.strm_head_calls.specs.declared.event.Event.TheVariants.{Asked}
use Rattle.strm_head.specs.StepResult.{StepValue, IsLooked, IsBounded}
use Rattle.strm_head.specs.Effects.{back_of}
use Rattle.strm_head.specs.Step.{Lands, arrived_of}
use Rattle.strm_shared_entry.specs.Entry.{Entry}
use Rattle.strm_shared_entry.specs.Entry.{out_in}
use Rattle.strm_shared_log.specs.Steps.{IsStep}
use Rattle.strm_shared_entry.specs.Receipt.{arrival_entry}
use Rattle.strm_msg.specs.declared.words.End.{End}
use Rattle.strm_head_calls.specs.declared.event.Event.{Event}
use Rattle.strm_shared_entry.specs.declared.entry.Who.{Who}
use Rattle.strm_shared_entry.specs.declared.call.Called.{Called}
use Rattle.strm_shared_entry.specs.declared.call.Called.TheVariants.{Done, NoRoom}
use Rattle.strm_shared_log.specs.Log.{LogValue, CallsBy, Enters, HasLanded, IsCalled, IsSameLog}
use Rattle.strm_shared_entry.specs.Receipt.{filled, ReceiptValue, EntryRoomValue}
use Rattle.strm_shared_log.proofs.EntryLemmas.{call_back, landed_step}

-- the same log, whatever room it has
pub same_log : {K : Type 0} (log : LogValue K) → IsSameLog log log
same_log log = record { setup = refl; image = refl; history = refl; kept = refl }

pub same_logs : {K : Type 0} (old between new : LogValue K) → IsSameLog old between → IsSameLog between new → IsSameLog old new
same_logs old between new before after = record {
  setup = after.setup ∙ before.setup;
  image = after.image ∙ before.image;
  history = after.history ∙ before.history;
  kept = after.kept ∙ before.kept;
}

-- for kinds of any meaning
module _ {K : Type 0} (means : Meaning K) where
  -- a step more, whatever room there was before
  pub enters_same : (old between new : LogValue K) (maker : Who) (at_end : End) (happened : Event (Shape K)) (answered : Answer) → IsSameLog old between → Enters means between maker at_end happened answered new → Enters means old maker at_end happened answered new
  enters_same old between new maker at_end happened answered same enters = record {
    entry = enters.entry;
    by = enters.by;
    at = enters.at;
    has = enters.has;
    answers = enters.answers;
    step = rw same.image at enters.step;
    history = rw same.history at enters.history;
    kept = rw same.kept at enters.kept;
    setup = enters.setup ∙ same.setup;
  }

  pub landed_same : (old between new : LogValue K) (m : Msg) → IsSameLog old between → HasLanded means between m new → HasLanded means old m new
  landed_same old between new m same lands = record {
    answer = lands.answer;
    enters = enters_same old between new _ _ _ lands.answer same lands.enters;
  }

  pub calls_same : {A : Type 0} (Agrees : A → Answer → Type 0) (old between new : LogValue K) (caller number : ℕ) (call : Call (Shape K)) (result : Called (Shape K) K A) → IsSameLog old between → CallsBy means Agrees between caller number call result new → CallsBy means Agrees old caller number call result new
  unfolding enters_same
  calls_same Agrees old between new caller number call (Done has back receipt) same by = (
    by.0,
    by.1,
    record {
      enters = enters_same old between new _ _ _ by.0 same by.2.enters;
      comes_back = rw same.image at by.2.comes_back;
      handed = by.2.handed;
      shown = by.2.shown;
    },
  )
  calls_same Agrees old between new caller number call (NoRoom again) same by = (by.0, same_logs old between new same by.1)

  -- a message that came in stands in the history
  pub landed : (old new : LogValue K) (m copy : Msg) (answer : Answer) (moves : List Place) (looks : ℕ) (entry : Entry K) → copy ≡ m → entry ≡ arrival_entry copy answer moves looks → Lands means old.image A m answer moves [] new.image → IsLooked answer moves looks → (IsCalm means → IsBounded (arrived_of means old.image A m) answer moves looks new.image) → new.history ≡ old.history ++ entry ∷ [] → new.kept ≡ old.kept ++ entry ∷ [] → new.setup ≡ old.setup → HasLanded means old m new
  landed old new m copy answer moves looks entry same is lands looked bound history kept setup = record {
    answer = answer;
    enters = record {
      entry = entry;
      by = rw is refl;
      at = rw is refl;
      has = rw (is, same) refl;
      answers = rw is refl;
      step = landed_step means old.image new.image m copy answer moves looks entry same is lands looked bound;
      history = history;
      kept = kept;
      setup = setup;
    };
  }

  -- a call that was made stands in the history, as its receipt shows
  pub called : (old new : LogValue K) (room : EntryRoomValue K) (call : Call (Shape K)) (made : StepValue) (answer twin : Answer) (moves : List Place) (looks : ℕ) (out : List ℕ) (back : List (Option (Shape K))) (receipt : Option (ReceiptValue K)) → room.end ≡ call.end → room.event ≡ Asked call.request → answer ≡ made.answer → twin ≡ made.answer → out ≡ out_in made.answer back → back ≡ back_of means old.image call.end call.request made.answer → IsStep means old.image (filled room twin moves looks out) new.image → new.history ≡ old.history ++ filled room twin moves looks out ∷ [] → new.kept ≡ old.kept ++ filled room twin moves looks out ∷ [] → new.setup ≡ old.setup → IfSome receipt (λ r. r ≡ record { caller = room.caller; number = room.number; entry = filled room twin moves looks out }) → IsCalled means old room.caller room.number call answer back receipt new
  called old new room call made answer twin moves looks out back receipt at same a equal o b step history kept setup shown = record {
    enters = record {
      entry = filled room twin moves looks out;
      by = refl;
      at = at;
      has = same;
      answers = equal ∙ sym a;
      step = step;
      history = history;
      kept = kept;
      setup = setup;
    };
    comes_back = rw a b;
    handed = rw (same, a) (call_back means call.request made.answer out back old.image call.end o b);
    shown = shown;
  }
