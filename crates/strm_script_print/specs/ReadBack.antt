-- Printed fields are read back: the text of a field spells that field.
use Rattle.std.specs.Prelude.{◌≡◌, ℕ, ◌≤◌, ◌<◌, ◌^◌, true, List, None, All, Ok}
use Rattle.std.specs.Str.{bytes_eq}
use Rattle.std.specs.List.{list_any}
use Rattle.strm_script_words.specs.Field.{Form, Whole, Optional, Maximum, Upto, Choice, Field, Bytes, Number, Word, part_field, maximum_field, field_at}
use Rattle.strm_script_words.specs.declared.field.TheConstants.{MOST_ASKED}
use Rattle.strm_script_print.specs.Fields.{fields_text}

abbrev pub AreBytes : List ℕ → Type 0
AreBytes bytes = All (λ byte. byte < 256) bytes

-- the fields that a form allows
pub data May : Form → Field → Type 0 where
  A_part : (bytes : List ℕ) → AreBytes bytes → May Whole (Bytes bytes)
  A_part_if_any : (bytes : List ℕ) → AreBytes bytes → May Optional (Bytes bytes)
  No_part : May Optional (part_field None)
  A_maximum : (n : ℕ) → n ≤ MOST_ASKED → May Maximum (Number n)
  No_maximum : May Maximum (maximum_field None)
  A_number : (most n : ℕ) → n ≤ most → n < 2 ^ 64 → May (Upto most) (Number n)
  A_word : (words : List (List ℕ)) (word : List ℕ) → list_any (bytes_eq word) words ≡ true → May (Choice words) (Word word)

abbrev pub FieldsAreReadBack : Type 0
FieldsAreReadBack = (form : Form) (field : Field) → May form field → field_at form (fields_text field) ≡ Ok field
