-- What becomes of a plan while it is read.
use denote.Ref.{Bor}
use Rattle.std.specs.Prelude.{ℕ, List, Result, IsOk, IsErrOf}
use Rattle.strm_module.specs.declared.shape.Shape.{Shape}
use Rattle.strm_script_text.specs.Text.{texts_of}
use Rattle.strm_script_words.specs.Fault.{Gives}
use Rattle.strm_script_words.specs.declared.fault.Cause.{Cause}
use Rattle.strm_script_words.specs.declared.fault.ReadError.{ReadError}
use Rattle.strm_script_words.specs.declared.fault.ReadError.TheVariants as errors
use Rattle.strm_script_parse.specs.Plan.{Partial, Process, draft_view, ended_view, process_place, process_view}
use Rattle.strm_script_parse.specs.declared.draft.Draft.{Draft}
use Rattle.strm_script_parse.specs.declared.draft.Ended.{Ended}
use Rattle.strm_script_parse.specs.declared.plan.ProcessDecl.{ProcessDecl}

-- the plan becomes what is read onto it, unless that has a fault or memory runs out
abbrev pub Becomes : {K : Type 0} → (Partial K → Result (Partial K) Cause) → Draft (Shape K) → Draft (Shape K) → Result (Unit {0}) ReadError → Type 0
Becomes onto old new result = Gives (λ _. draft_view new) result (onto (draft_view old))

-- the same where these fields are read onto it
abbrev pub Reads : {K : Type 0} → (Partial K → List (List ℕ) → Result (Partial K) Cause) → List (Bor (List ℕ)) → Draft (Shape K) → Draft (Shape K) → Result (Unit {0}) ReadError → Type 0
Reads onto texts old new result = Becomes (λ d. onto d (texts_of texts)) old new result

-- memory runs out only where these fields have no fault
abbrev pub TakesMemoryLast : {K : Type 0} → (Partial K → List (List ℕ) → Result (Partial K) Cause) → List (Bor (List ℕ)) → Draft (Shape K) → Result (Unit {0}) ReadError → Type 0
TakesMemoryLast onto texts old result = IsErrOf result errors.Memory → IsOk (onto (draft_view old) (texts_of texts))

-- what has ended and the process that goes on become what is read onto the plan, unless that has a fault or
-- memory runs out
abbrev pub Continues : {K : Type 0} → (Partial K → Process K → List (List ℕ) → Result (Partial K) Cause) → List (Bor (List ℕ)) → Ended (Shape K) → ProcessDecl (Shape K) → Ended (Shape K) → ProcessDecl (Shape K) → Result (Unit {0}) ReadError → Type 0
Continues onto texts old before new after result =
    Gives (λ _. ended_view new (process_place after)) result (onto (ended_view old (process_place before)) (process_view before) (texts_of texts))

-- memory runs out only where these fields of the process that goes on have no fault
abbrev pub ContinuesMemoryLast : {K : Type 0} → (Partial K → Process K → List (List ℕ) → Result (Partial K) Cause) → List (Bor (List ℕ)) → Ended (Shape K) → ProcessDecl (Shape K) → Result (Unit {0}) ReadError → Type 0
ContinuesMemoryLast onto texts old before result =
    IsErrOf result errors.Memory → IsOk (onto (ended_view old (process_place before)) (process_view before) (texts_of texts))
