-- Words that are nearly the same.
use Rattle.std.specs.Prelude.{ℕ, ◌+◌, ◌==◌, ◌&&◌, ◌||◌, Bool, false, nat_lt, List, ◌∷◌, length, if◌then◌else◌}
use Rattle.std.specs.Str.{bytes_eq, str_eq_ignore_ascii_case}

-- whether two texts differ in that their first two bytes change places
abbrev pub is_swapped : List ℕ → List ℕ → Bool
is_swapped (a ∷ c ∷ text) (b ∷ d ∷ word) = a == d && c == b && bytes_eq text word
is_swapped text word = false

-- whether two texts differ in one edit at their beginning: a byte too many, one that is missing, another one,
-- or two that change places
abbrev pub is_edited : List ℕ → List ℕ → Bool
is_edited (a ∷ text) (b ∷ word) = bytes_eq text (b ∷ word) || bytes_eq (a ∷ text) word || bytes_eq text word || is_swapped (a ∷ text) (b ∷ word)
is_edited text word = length text + length word == 1

-- whether two texts differ in one edit, behind what they have in common
abbrev pub is_near : List ℕ → List ℕ → Bool
is_near (a ∷ text) (b ∷ word) = if a == b then is_near text word else is_edited (a ∷ text) (b ∷ word)
is_near text word = is_edited text word

-- whether a text is nearly a word: but for capital letters, or in one edit; one byte is not nearly another
abbrev pub is_meant : List ℕ → List ℕ → Bool
is_meant text word = str_eq_ignore_ascii_case text word || nat_lt 2 (length text + length word) && is_near text word
