-- The rounds of a pump: an owner says which call it wants, the call is served, and the owner hears of it.
use Rattle.std.specs.Prelude.{◌≡◌, ◌≤◌, ℕ, zero, suc, Bool, true, false, Option, Some, None}
use Rattle.strm_msg.specs.declared.words.Side.{Side}
use Rattle.strm_head_calls.specs.declared.service.ServiceCall.{ServiceCall}
use Rattle.strm_owner.specs.declared.owner.Told.{Told}
use Rattle.strm_owner.specs.declared.pump.Pumped.{Pumped}

-- for owners that ask and hear so, and what serves their calls
module _ {O S : Type 0} (Asks : O → Option (Side × ServiceCall) → O → Type 0) (Hears : O → Told → O → Type 0) (Serves : Side → ServiceCall → S → Told → S → Type 0) where
  -- one round: the owner wants a call, the call is served, and the owner hears what came of it
  pub record IsRound (owner : O) (state : S) (owner_after : O) (state_after : S) : Type 0 where
    pub side : Side
    pub call : ServiceCall
    pub waiting : O
    pub told : Told
    pub asks : Asks owner (Some (side, call)) waiting
    pub serves : Serves side call state told state_after
    pub hears : Hears waiting told owner_after

  -- so many rounds, one after the other
  abbrev pub Rounds : ℕ → O → S → O → S → Type 0
  Rounds zero owner state owner_after state_after = (owner_after ≡ owner) × (state_after ≡ state)
  Rounds (suc n) owner state owner_after state_after =
      (one : O) × (other : S) × Rounds n owner state one other × IsRound one other owner_after state_after

  -- an idle owner wants no call more; of another the budget is used up
  abbrev pub Stops : ℕ → Bool → ℕ → O → O → Type 0
  Stops budget true done owner owner_after = Asks owner None owner_after
  Stops budget false done owner owner_after = (owner_after ≡ owner) × (done ≡ budget)

  -- an owner is pumped: all its rounds, and their end
  pub record Pumps (budget : ℕ) (owner : O) (state : S) (pumped : Pumped) (owner_after : O) (state_after : S) : Type 0 where
    pub last : O
    pub rounds : Rounds pumped.done owner state last state_after
    pub stops : Stops budget pumped.is_idle pumped.done last owner_after
    pub within : pumped.done ≤ budget
