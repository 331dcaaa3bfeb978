-- Histories: the events on a stream, entry by entry.
use Rattle.std.specs.Prelude.{◌≡◌, List, [], ◌∷◌}
use Rattle.strm_module.specs.Kinds.{Meaning}
use Rattle.strm_chain_ends.specs.Image.{Image}
use Rattle.strm_shared_entry.specs.Entry.{Entry}
use Rattle.strm_shared_log.specs.Steps.{IsStep}

-- for kinds of any meaning
module _ {K : Type 0} (means : Meaning K) where
  -- the history leads by steps from one image to another
  abbrev pub Legal : Image K → List (Entry K) → Image K → Type 0
  Legal image [] after = after ≡ image
  Legal image (entry ∷ entries) after = (next : Image K) × IsStep means image entry next × Legal next entries after
