-- Callers that go on step by step.
use Rattle.std.specs.Prelude.{ℕ}
use Rattle.strm_run_callers.specs.declared.player.Stepped.{Stepped}
use Rattle.strm_run_callers.specs.declared.player.Stepped.TheVariants.{Goes, Ended}

-- the caller that has made a step
abbrev pub caller_of : {M N K : Type 0} → Stepped M N K → ℕ
caller_of (Goes player) = player
caller_of (Ended played) = played
