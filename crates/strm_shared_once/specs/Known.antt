-- The knowledge of a note about its cell.
use mathlib.Core.Bool.{true≢false}
use mathlib.Core.Path.{sym}
use Rattle.std.specs.Prelude.{IsSome}
use Rattle.std.specs.declared.option.Option.{Option}
use Rattle.std.specs.declared.option.Option.TheVariants.{None, Some}

-- the value that a note knows, if it knows one
abbrev pub known_value : {X : Type 0} → (known : Option X) → IsSome known → X
known_value None full = absurd (true≢false (sym full))
known_value (Some x) full = x
