-- A field of a line, by its place.
use Rattle.std.specs.Prelude.{◌≡◌, ℕ, ◌+◌, ◌≤◌, List, ◌∷◌, ◌++◌, length, take, drop}
use Rattle.strm_script_text.specs.Text.{fields_of}

-- the `width` bytes from `start` on are the field of this number: so many fields are in front of them, and the
-- others behind them
pub record IsField (line : List ℕ) (number start width : ℕ) : Type 0 where
  pub within : start + width ≤ length line
  pub before : length (fields_of (take start line)) ≡ number
  pub fields : fields_of line ≡ fields_of (take start line) ++ take width (drop start line) ∷ fields_of (drop (start + width) line)
