-- What is marked in a line, by the cause of its fault.
use Rattle.std.specs.Prelude.{◌≡◌, ℕ, ◌<◌, not, List, length}
use Rattle.std.specs.List.{position_or_len}
use Rattle.strm_script_text.specs.Bytes.{is_allowed}
use Rattle.strm_script_text.specs.Text.{fields_of}
use Rattle.strm_script_words.specs.declared.fault.Cause.{Cause}
use Rattle.strm_script_words.specs.declared.fault.Cause.TheVariants as causes
use Rattle.strm_script_parse.specs.Reading.{IsTooLong}
use Rattle.strm_script_explain.specs.declared.explaining.TheConstants.{LONGEST_LINE}
use Rattle.strm_script_explain.specs.declared.mark.Marked.{Marked}
use Rattle.strm_script_explain.specs.declared.mark.Marked.TheVariants.{Field, Byte, End}

-- one of the first `many` fields is marked
abbrev pub IsFieldBelow : ℕ → Marked → Type 0
IsFieldBelow many (Field number) = number < many
IsFieldBelow many (Byte at) = ⊥
IsFieldBelow many End = ⊥

-- the line has what is marked
abbrev pub IsInside : List ℕ → Marked → Type 0
IsInside line (Field number) = number < length (fields_of line)
IsInside line (Byte at) = at < length line
IsInside line End = Unit {0}

-- the number of the first byte that no line may have, or the length of the line
abbrev pub refused_byte : List ℕ → ℕ
refused_byte line = position_or_len (λ byte. not (is_allowed byte)) line

-- what is marked suits the cause: the first byte over the longest line, the first byte that no line may have,
-- or a field; nothing is said of a wrong number of fields, where it may be the end of the line
abbrev pub Suits : Cause → List ℕ → Marked → Type 0
Suits causes.TooLong line marked = IsTooLong line → marked ≡ Byte LONGEST_LINE
Suits causes.Byte line marked = refused_byte line < length line → marked ≡ Byte (refused_byte line)
Suits causes.Fields line marked = Unit {0}
Suits cause line marked = 0 < length (fields_of line) → IsFieldBelow (length (fields_of line)) marked
