use Rattle.std.proofs.Common.{◌≡◌, ℕ, ◌<◌, Any}
use Rattle.strm_shared.proofs.ending.are_seated.Given as goal

-- each caller so far has a seat
abbrev pub invariant-loop-caller : goal.invariant-loop-caller
invariant-loop-caller l = (caller : ℕ) → caller < l.caller → Any (λ s. s.caller ≡ caller) l.seats
