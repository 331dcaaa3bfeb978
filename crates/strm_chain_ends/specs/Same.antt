-- The parts of the ends of a stream that no message changes.
use Rattle.std.specs.Prelude.{◌≡◌}
use Rattle.strm_chain_end.specs.Modules.{SameEnd}
use Rattle.strm_chain_ends.specs.Image.{Image}

-- both ends are open or closed as before, with the same modules and ids, over the same driver with the same
-- marks
pub record SameModules {K : Type 0} (old new : Image K) : Type 0 where
  pub driver : new.driver ≡ old.driver
  pub broken : new.broken ≡ old.broken
  pub on_a : SameEnd old.a new.a
  pub on_b : SameEnd old.b new.b
