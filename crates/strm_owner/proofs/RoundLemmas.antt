-- Rounds of a pump, one after another.
use Rattle.std.proofs.Common.{◌≡◌, ◌≤◌, ℕ, suc, ◌+◌, true, false, Option, None, arith, refl, subst}
use Rattle.strm_msg.specs.declared.words.Side.{Side}
use Rattle.strm_head_calls.specs.declared.service.ServiceCall.{ServiceCall}
use Rattle.strm_owner.specs.declared.owner.Told.{Told}
use Rattle.strm_owner.specs.declared.pump.Pumped.{Pumped}
use Rattle.strm_owner.specs.Rounds.{IsRound, Rounds, Pumps}

module _ {O S : Type 0} (Asks : O → Option (Side × ServiceCall) → O → Type 0) (Hears : O → Told → O → Type 0) (Serves : Side → ServiceCall → S → Told → S → Type 0) where
  -- one round more
  pub one_more : (n : ℕ) (owner : O) (state : S) (one : O) (other : S) (after : O) (left : S) → Rounds Asks Hears Serves n owner state one other → IsRound Asks Hears Serves one other after left → Rounds Asks Hears Serves (n + 1) owner state after left
  one_more n owner state one other after left before round =
      let next : suc n ≡ n + 1 = omega arith in
      subst (λ m. Rounds Asks Hears Serves m owner state after left) next (one, other, before, round)

  -- the owner wants no call more
  pub idle : (budget done : ℕ) (owner : O) (state : S) (last : O) (left : S) (after : O) → Rounds Asks Hears Serves done owner state last left → done ≤ budget → Asks last None after → Pumps Asks Hears Serves budget owner state (record { done = done; is_idle = true }) after left
  idle budget done owner state last left after rounds few asks = record { last = last; rounds = rounds; stops = asks; within = few }

  -- the budget is used up
  pub used_up : (budget done : ℕ) (owner : O) (state : S) (last : O) (left : S) → Rounds Asks Hears Serves done owner state last left → done ≤ budget → budget ≤ done → Pumps Asks Hears Serves budget owner state (record { done = budget; is_idle = false }) last left
  used_up budget done owner state last left rounds few all =
      let same : done ≡ budget = omega arith in record {
        last = last;
        rounds = subst (λ m. Rounds Asks Hears Serves m owner state last left) same rounds;
        stops = (refl, refl);
        within = omega arith;
      }
