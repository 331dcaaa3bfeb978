-- The calls of a caller, with one entry more.
use Rattle.std.proofs.Common.{◌≡◌, ℕ, true, false, cond, List, [], ◌∷◌, ◌++◌, ◌∙◌, ap}
use Rattle.std.proofs.lemmas.List.{append-nil}
use Rattle.std.proofs.lemmas.List.Elements.{filter-append}
use Rattle.strm_shared_entry.specs.Entry.{Entry}
use Rattle.strm_shared_entry.specs.Entry.{is_caller}
use Rattle.strm_shared_entry.specs.Own.{own}

-- the calls of a caller, with one step more
own_more : {K : Type 0} (caller : ℕ) (history longer : List (Entry K)) (entry : Entry K) → longer ≡ history ++ entry ∷ [] → own caller longer ≡ own caller history ++ own caller (entry ∷ [])
own_more caller history longer entry is = ap (λ l. own caller l) is ∙ filter-append _ history (entry ∷ [])

-- a step of another
pub other_step : {K : Type 0} (caller : ℕ) (history longer : List (Entry K)) (entry : Entry K) → longer ≡ history ++ entry ∷ [] → is_caller caller entry.who ≡ false → own caller longer ≡ own caller history
other_step caller history longer entry is not = own_more caller history longer entry is ∙ ap (λ b. own caller history ++ cond b (entry ∷ []) []) not ∙ append-nil _

-- a step of its own
pub own_step : {K : Type 0} (caller : ℕ) (history longer : List (Entry K)) (entry : Entry K) → longer ≡ history ++ entry ∷ [] → is_caller caller entry.who ≡ true → own caller longer ≡ own caller history ++ entry ∷ []
own_step caller history longer entry is so = own_more caller history longer entry is ∙ ap (λ b. own caller history ++ cond b (entry ∷ []) []) so
