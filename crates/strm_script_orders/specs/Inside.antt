-- What the code of a listed order keeps (no public clause cites it).
use Rattle.std.specs.Prelude.{ℕ, ◌≤◌}

-- no more choices were made than are kept, and there is room for all that may be
pub record IsListed (kept room made steps : ℕ) : Type 0 where
  pub made_within : made ≤ kept
  pub kept_within : kept ≤ steps
  pub steps_within : steps ≤ room
