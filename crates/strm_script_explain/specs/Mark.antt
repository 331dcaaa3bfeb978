-- The mark under a line.
use Rattle.std.specs.Prelude.{◌≡◌, ℕ, ◌+◌, ◌-◌, ◌<◌, ◌≤◌, List, length}
use Rattle.strm_script_explain.specs.Field.{IsField}
use Rattle.strm_script_explain.specs.declared.mark.Marked.{Marked}
use Rattle.strm_script_explain.specs.declared.mark.Marked.TheVariants.{Field, Byte, End}

-- the `width` bytes from `start` on are what is marked: one field, one byte, or none at the end of the line
abbrev pub Marks : List ℕ → Marked → ℕ → ℕ → Type 0
Marks line (Field number) start width = IsField line number start width
Marks line (Byte at) start width = (start ≡ at) × (width ≡ 1)
Marks line End start width = (start ≡ length line) × (width ≡ 0)

-- a mark is within its line, under what it marks; its column is counted from 1
pub record IsMark (line : List ℕ) (marked : Marked) (column width : ℕ) : Type 0 where
  pub from_one : 0 < column
  pub within : column - 1 + width ≤ length line
  pub marks : Marks line marked (column - 1) width
