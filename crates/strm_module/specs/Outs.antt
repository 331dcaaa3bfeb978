-- At most two messages leave a module at once.
use Rattle.std.proofs.Common.{subst, sym}
use Rattle.std.specs.Prelude.{◌≡◌, Option, Some, None, ◌++◌, slice_get, refl, ⊤}
use Rattle.std.specs.Option.{option_to_list}
use Rattle.strm_msg.specs.Message.{Msg}
use Rattle.strm_msg.specs.declared.words.Side.{Side}
use Rattle.strm_module.specs.Kinds.{OutList}

-- a message that leaves, with its side, if there is one
abbrev pub Leaving : Type 0
Leaving = Option (Side × Msg)

-- the messages that leave, the first one first
abbrev pub leaving : Leaving → Leaving → OutList
leaving first second = option_to_list first ++ option_to_list second

-- none leaves as the second alone
abbrev pub AreInOrder : Leaving → Leaving → Type 0
AreInOrder None second = second ≡ None
AreInOrder (Some sent) second = ⊤

-- the list says which leaves first and which second
abbrev pub TellsBoth : Leaving → Leaving → Type 0
TellsBoth first second = ◌≡◌ {A = Leaving × Leaving} (slice_get (leaving first second) 0, slice_get (leaving first second) 1) (first, second)

pub tells_both : (first second : Leaving) → AreInOrder first second → TellsBoth first second
tells_both None second none = subst (TellsBoth None) (sym none) refl
tells_both (Some one) None is = refl
tells_both (Some one) (Some two) is = refl
