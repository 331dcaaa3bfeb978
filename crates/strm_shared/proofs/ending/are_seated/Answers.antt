use Rattle.std.proofs.Common.{◌≡◌, ℕ, Any, below_more}
use Rattle.strm_shared.proofs.ending.are_seated.Goals as goal

pub loop-caller-preserved : goal.loop-caller-preserved
loop-caller-preserved c =
    below_more (λ (k : ℕ). Any (λ s. s.caller ≡ k) c.args.seats.now) c.loop-caller.caller c.loop-caller.invariant (c.is_seated.ensures.0 c.if-not-is_seated.false)
