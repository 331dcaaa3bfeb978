-- A row of a terminal's screen. It is as wide as need be.
use Rattle.std.specs.Prelude.{ℕ, ◌==◌, ◌≡◌, Bool, true, List, [], ◌∷◌, ◌++◌, if◌then◌else◌, drop, reverse}
use Rattle.std.specs.List.{list_all}
use Rattle.port_termio.specs.Edit.{shown_line}

-- the columns left of the cursor, the nearest first, and those from the cursor on
pub record Row : Type 0 where
  pub before : List ℕ
  pub past : List ℕ

-- BS moves the cursor left where it can
abbrev pub moved_left : List ℕ → List ℕ → Row
moved_left [] past = record { before = []; past = past }
moved_left (column ∷ before) past = record { before = before; past = column ∷ past }

-- a row after one byte: CR moves the cursor to the first column, LF begins a new row, and BEL changes
-- nothing; any other byte is written over the column at the cursor, which moves right
abbrev pub after_byte : Row → ℕ → Row
after_byte row byte =
    if byte == 8 then moved_left row.before row.past
    else if byte == 13 then record { before = []; past = reverse row.before ++ row.past }
    else if byte == 10 then record { before = []; past = [] }
    else if byte == 7 then row
    else record { before = byte ∷ row.before; past = drop 1 row.past }

abbrev pub after_bytes : Row → List ℕ → Row
after_bytes row [] = row
after_bytes row (byte ∷ bytes) = after_bytes (after_byte row byte) bytes

-- whether all of these columns are blank
abbrev pub are_blank : List ℕ → Bool
are_blank columns = list_all (λ column. column == 32) columns

-- the row shows a line behind what stood left of it, with the cursor at the line's end and only blanks past
-- it
pub record Shows (row : Row) (before line : List ℕ) : Type 0 where
  pub left : row.before ≡ reverse (shown_line line) ++ before
  pub right : are_blank row.past ≡ true
