-- The answer of a call, the places that moved, and the number of places that were looked at.
use Rattle.std.specs.Prelude.{◌≡◌, ◌≤◌, ℕ, Bool, List, if◌then◌else◌}
use Rattle.strm_msg.specs.declared.words.End.{End}
use Rattle.strm_module.specs.Calm.{IsCalm}
use Rattle.strm_module.specs.Kinds.{Meaning}
use Rattle.strm_module.specs.declared.shape.Shape.{Shape}
use Rattle.strm_chain_ends.specs.Image.{Image}
use Rattle.strm_chain.specs.Count.{AreLooks, most_looks}
use Rattle.strm_chain_ends.specs.declared.place.Place.{Place}
use Rattle.strm_head_calls.specs.declared.answer.Answer.{Answer}
use Rattle.strm_head_calls.specs.declared.answer.Answer.TheVariants.{Done, Refused, Broke}
use Rattle.strm_head_calls.specs.declared.event.Event.TheVariants.{Asked}
use Rattle.strm_head_calls.specs.declared.request.Request.{Request}
use Rattle.strm_head.specs.Effects.{begun_of, out_of}
use Rattle.strm_head.specs.Step.{Step}

pub record StepValue : Type 0 where
  pub answer : Answer
  pub moves : List Place
  pub looks : ℕ

-- each move is a look and there are few others, and a call that is refused looks at no place
abbrev pub IsLooked : Answer → List Place → ℕ → Type 0
IsLooked (Done reply) moves looks = AreLooks moves looks
IsLooked (Refused refusal) moves looks = looks ≡ 0
IsLooked Broke moves looks = looks ≡ 0

-- with calm modules a call that is done looks at fewer after it has begun
abbrev pub IsBounded : {K : Type 0} → Image K → Answer → List Place → ℕ → Image K → Type 0
IsBounded effect (Done reply) moves looks after = looks ≤ most_looks effect moves after
IsBounded effect (Refused refusal) moves looks after = Unit {0}
IsBounded effect Broke moves looks after = Unit {0}

-- a call that is done has the looks of its own service, as the run queue has given them: none where no
-- service runs
abbrev pub AreGiven : Bool → Answer → ℕ → ℕ → Type 0
AreGiven rests (Done reply) looks given = looks ≡ (if rests then 0 else given)
AreGiven rests (Refused refusal) looks given = looks ≡ 0
AreGiven rests Broke looks given = looks ≡ 0

-- for kinds of any meaning
module _ {K : Type 0} (means : Meaning K) where
  -- a call has this answer and makes these moves, by one step of the stream, which takes out the modules that
  -- it says
  abbrev pub IsAnswered : Image K → End → Request (Shape K) → Answer → List Place → Image K → Type 0
  IsAnswered image e request answer moves after =
      Step means image e (Asked request) answer moves (out_of means image e request answer) after

  abbrev pub IsCallStep : Image K → End → Request (Shape K) → StepValue → Image K → Type 0
  IsCallStep image e request step after = IsAnswered image e request step.answer step.moves after

  -- with calm modules a call that is done looks at few places after it has begun, with this image
  abbrev pub LooksAtFew : Image K → StepValue → Image K → Type 0
  LooksAtFew begun step after = IsCalm means → IsBounded begun step.answer step.moves step.looks after

  -- the same, by the call
  abbrev pub CallLooksAtFew : Image K → End → Request (Shape K) → StepValue → Image K → Type 0
  CallLooksAtFew image e request step after = LooksAtFew (begun_of means image e request) step after
