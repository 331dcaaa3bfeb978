-- The requirement on the type of a run's modules.
use Rattle.std.specs.Mem.{FitsInMemory}
use denote.Plain.{Nothing}
use denote.RattleType.{RattleType}
use Rattle.strm_module.specs.declared.vocabulary.Kinds.{Ghosts}
use Rattle.strm_module.specs.contracts.boxed.BoxedModule as boxed
use Rattle.strm_shared_entry.specs.contracts.call.Called as called

-- the outcome of a call fits into memory, as each type does that a compiler takes: for modules and kinds of
-- these types
abbrev pub CallsFit : (M K : RattleType) → Ghosts K.Denot → Type 0
CallsFit M K kinds = FitsInMemory (called.the_row (boxed.the_row M K kinds) K Nothing)
