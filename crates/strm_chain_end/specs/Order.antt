-- The modules of an end that answer, and which of them are above which.
use Rattle.std.specs.Prelude.{◌&&◌, ◌||◌, Bool, false, List, [], ◌∷◌}
use Rattle.std.specs.List.{list_any}
use Rattle.strm_msg.specs.declared.words.Side.{Side}
use Rattle.strm_module.specs.Kinds.{Meaning}
use Rattle.strm_chain_end.specs.Pair.{QueuePair}

-- whether one of these modules is of such a kind
abbrev pub some_kind : {K : Type 0} → (K → Bool) → List (QueuePair K) → Bool
some_kind is modules = list_any (λ s. is s.shape.kind) modules

-- whether a module of the one sort is above one of the other; the topmost is the first
abbrev pub stands_over : {K : Type 0} → (K → Bool) → (K → Bool) → List (QueuePair K) → Bool
stands_over one other [] = false
stands_over one other (s ∷ below) = (one s.shape.kind && some_kind other below) || stands_over one other below

-- whether one of these modules may answer ordinary messages of a side on the other
abbrev pub some_answers : {K : Type 0} → Meaning K → Side → List (QueuePair K) → Bool
some_answers means side modules = some_kind (λ kind. means.answers kind side) modules
