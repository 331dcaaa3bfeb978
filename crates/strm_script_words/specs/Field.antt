-- The forms of fields, and the values that fields spell.
use Rattle.std.specs.Prelude.{ℕ, Bool, true, false, ◌==◌, nat_lt, nat_le, List, [], ◌∷◌, length, Option, Some, None, Result, Ok, Err, codes, if◌then◌else◌}
use Rattle.std.specs.Str.{bytes_eq}
use Rattle.std.specs.List.{list_any}
use Rattle.strm_msg.specs.Text.{name_of}
use Rattle.strm_msg.specs.declared.errno.Errno.{Errno}
use Rattle.strm_msg.specs.Marks.{WaterMarks}
use Rattle.strm_script_text.specs.Text.{number_of, part_of, halves_of}
use Rattle.strm_script_words.specs.Fault.{◌>>=◌, or_fault}
use Rattle.strm_script_words.specs.Words.{all_errnos, named}
use Rattle.strm_script_words.specs.declared.fault.Cause.{Cause}
use Rattle.strm_script_words.specs.declared.fault.Cause.TheVariants as causes
use Rattle.strm_script_words.specs.declared.field.TheConstants.{MOST_ASKED, MOST_U32}

-- the form of a field
pub data Form : Type 0 where
  -- a part
  Whole : Form
  -- a part, or `-` for none
  Optional : Form
  -- a number of bytes up to `MOST_ASKED`, or `-1` for none
  Maximum : Form
  -- a number up to a limit
  Upto : (most : ℕ) → Form
  -- one of these words
  Choice : (words : List (List ℕ)) → Form

-- whether a field is a part, whose bytes take memory
abbrev pub is_part : Form → Bool
is_part Whole = true
is_part Optional = true
is_part form = false

-- the value of a field
pub data Field : Type 0 where
  Bytes : (bytes : List ℕ) → Field
  Number : (n : ℕ) → Field
  Pair : (high low : ℕ) → Field
  Word : (word : List ℕ) → Field

-- the value of a part that may be missing
abbrev pub part_field : Option (List ℕ) → Field
part_field None = Word (codes "-")
part_field (Some bytes) = Bytes bytes

-- the value of a maximum that may be missing
abbrev pub maximum_field : Option ℕ → Field
maximum_field None = Word (codes "-1")
maximum_field (Some n) = Number n

-- ---- reading

abbrev pub number_at : ℕ → List ℕ → Result ℕ Cause
number_at most text = or_fault causes.Number (number_of most text)

abbrev pub part_at : List ℕ → Result (List ℕ) Cause
part_at text = or_fault causes.Part (part_of text)

abbrev pub optional_at : List ℕ → Result (Option (List ℕ)) Cause
optional_at text = if bytes_eq text (codes "-") then Ok None else (part_at text >>= λ bytes. Ok (Some bytes))

-- a maximum; one that is missing is the two bytes `-1`, and nothing else
abbrev pub maximum_at : List ℕ → Result (Option ℕ) Cause
maximum_at text = if bytes_eq text (codes "-1") then Ok None else (number_at MOST_ASKED text >>= λ n. Ok (Some n))

-- the value that a word names
abbrev pub value_at : {A : Type 0} → (A → List ℕ) → List A → List ℕ → Result A Cause
value_at word all text = or_fault causes.UnknownWord (named word all text)

abbrev pub keyword_at : List (List ℕ) → List ℕ → Result (List ℕ) Cause
keyword_at words text = if list_any (bytes_eq text) words then Ok text else Err causes.UnknownWord

-- the value of a field of some form
abbrev pub field_at : Form → List ℕ → Result Field Cause
field_at Whole text = part_at text >>= λ bytes. Ok (Bytes bytes)
field_at Optional text = optional_at text >>= λ part. Ok (part_field part)
field_at Maximum text = maximum_at text >>= λ most. Ok (maximum_field most)
field_at (Upto most) text = number_at most text >>= λ n. Ok (Number n)
field_at (Choice words) text = keyword_at words text >>= λ word. Ok (Word word)

-- the values of fields, from left to right
abbrev pub each_at : List Form → List (List ℕ) → Result (List Field) Cause
each_at [] texts = Ok []
each_at (form ∷ forms) [] = Err causes.Fields
each_at (form ∷ forms) (text ∷ texts) = do
  field ← field_at form text
  others ← each_at forms texts
  Ok (field ∷ others)

-- the values of fields; their number is checked before the first of them
abbrev pub fields_at : List Form → List (List ℕ) → Result (List Field) Cause
fields_at forms texts = if length texts == length forms then each_at forms texts else Err causes.Fields

-- ---- fields of lines that are no calls, and of pushes

-- the marks of HI/LO, with the low mark below the high one
abbrev pub marks_at : List ℕ → Result (ℕ × ℕ) Cause
marks_at text = do
  halves ← or_fault causes.Number (halves_of 47 text)
  high ← number_at MOST_U32 halves.0
  low ← number_at MOST_U32 halves.1
  if nat_lt low high then Ok (high, low) else Err causes.Marks

-- marks, or `-` if they stay
abbrev pub optional_marks_at : List ℕ → Result (Option (ℕ × ℕ)) Cause
optional_marks_at text = if bytes_eq text (codes "-") then Ok None else (marks_at text >>= λ marks. Ok (Some marks))

-- marks as a pair, the high one first (no public clause cites it)
abbrev pub pair_of : WaterMarks → ℕ × ℕ
pair_of marks = (marks.hi, marks.lo)

-- the marks of a side of a module, or `-` if it has no queue there
abbrev pub side_at : List ℕ → Result (Option WaterMarks) Cause
side_at text = if bytes_eq text (codes "-") then Ok None else (marks_at text >>= λ marks. Ok (Some (record { hi = marks.0; lo = marks.1 })))

-- a part of at most that many bytes
unfoldable pub part_upto : ℕ → List ℕ → Result (List ℕ) Cause
part_upto most text = part_at text >>= λ bytes. if nat_le (length bytes) most then Ok bytes else Err causes.Part

-- such a part, or `-` if it is missing
abbrev pub optional_upto : ℕ → List ℕ → Result (Option (List ℕ)) Cause
optional_upto most text = if bytes_eq text (codes "-") then Ok None else (part_upto most text >>= λ bytes. Ok (Some bytes))

abbrev pub errno_at : List ℕ → Result Errno Cause
errno_at text = value_at name_of all_errnos text
