-- Histories that go on with service calls alone.
use Rattle.std.proofs.Common.{◌≡◌, ℕ, List, [], ◌∷◌, ◌++◌, refl, ap, sym, ◌∙◌, append_assoc, append-nil}
use Rattle.std.specs.Prelude.{All}
use Rattle.std.proofs.lemmas.List.Elements.{All-nil, All-push, All-append}
use Rattle.strm_msg.specs.declared.words.End.{End}
use Rattle.strm_module.specs.declared.shape.Shape.{Shape}
use Rattle.strm_head_calls.specs.declared.event.Event.{Event}
use Rattle.strm_shared_entry.specs.Entry.{Entry, asked_of}
use Rattle.strm_owner.specs.Serves.{ServedModuleValue, IsServiceBy, OnlyServes}

-- what an entry asked, by its end and its event
pub asked_is : {K : Type 0} (entry : Entry K) (e : End) (event : Event (Shape K)) → entry.end ≡ e → entry.event ≡ event → asked_of entry ≡ (e, event)
asked_is entry e event at has = ap (λ x. (x, entry.event)) at ∙ ap (λ x. (e, x)) has

-- a history that is as it was
pub only_none : {K : Type 0} (served : ServedModuleValue) (caller : ℕ) (old new : List (Entry K)) → new ≡ old → OnlyServes served caller old new
only_none {K} served caller old new same = record {
  entries = [];
  history = same ∙ sym (append-nil old);
  only = All-nil (λ (entry : Entry K). IsServiceBy served caller entry);
}

-- one service call more
pub only_one : {K : Type 0} (served : ServedModuleValue) (caller : ℕ) (old new : List (Entry K)) (entry : Entry K) → new ≡ old ++ entry ∷ [] → IsServiceBy served caller entry → OnlyServes served caller old new
only_one {K} served caller old new entry is by = record {
  entries = entry ∷ [];
  history = is;
  only = All-push (λ (entry : Entry K). IsServiceBy served caller entry) [] entry (All-nil (λ (entry : Entry K). IsServiceBy served caller entry)) by;
}

-- one stretch and then another
pub only_then : {K : Type 0} (served : ServedModuleValue) (caller : ℕ) (old between new : List (Entry K)) → OnlyServes served caller old between → OnlyServes served caller between new → OnlyServes served caller old new
only_then {K} served caller old between new first more = record {
  entries = first.entries ++ more.entries;
  history = more.history ∙ ap (λ h. h ++ more.entries) first.history ∙ append_assoc old first.entries more.entries;
  only = All-append (λ (entry : Entry K). IsServiceBy served caller entry) first.entries more.entries first.only more.only;
}
