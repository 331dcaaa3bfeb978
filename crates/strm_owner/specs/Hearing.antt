-- What an owner hears of a call that it wants.
use Rattle.std.specs.Prelude.{◌≡◌, ◌⊎◌, Option, unwrap_or}
use Rattle.strm_head_calls.specs.declared.refusal.Refusal.{Refusal}
use Rattle.strm_head_calls.specs.declared.refusal.Refusal.TheVariants.{NoMemory}
use Rattle.strm_head_calls.specs.declared.service.ServiceCall.{ServiceCall}
use Rattle.strm_head_calls.specs.declared.answer.Answer.{Answer}
use Rattle.strm_head_calls.specs.declared.answer.Answer.TheVariants as Answers
use Rattle.strm_owner.specs.declared.owner.Told.{Told}
use Rattle.strm_owner.specs.declared.owner.Told.TheVariants.{Done, Refused, Broke}

-- the answer of a call that was made; where it was refused, the call comes back
abbrev pub told_of : ServiceCall → Answer → Told
told_of call (Answers.Done reply) = Done reply
told_of call (Answers.Refused refusal) = Refused refusal call
told_of call Answers.Broke = Broke

-- a call that is not made comes back with the first refusal that holds, and where none does, for want of
-- memory
abbrev pub held_back : Option Refusal → ServiceCall → Told
held_back first call = Refused (unwrap_or first NoMemory) call

-- a call is not made, and all is as it was; or it is made, and its answer is heard
abbrev pub IsHeard : Option Refusal → Type 0 → (Answer → Type 0) → ServiceCall → Told → Type 0
IsHeard first IsSame Makes call told =
    ((told ≡ held_back first call) × IsSame) ⊎ ((answer : Answer) × Makes answer × (told ≡ told_of call answer))
