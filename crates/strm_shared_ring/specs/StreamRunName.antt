-- The next step of a run.
use Rattle.std.specs.Prelude.{◌≡◌, ℕ, Option, Some, None, List, slice_get, ⊤}

-- a call, or a message, is the next one of those that may come, after this many; without such a list any is
abbrev pub IsNextOf : {A : Type 0} → Option (List A) → ℕ → A → Type 0
IsNextOf None count one = ⊤
IsNextOf (Some all) count one = slice_get all count ≡ Some one
