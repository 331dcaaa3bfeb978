-- The fields of a line, and the values of a field: a number, a name, or bytes.
use denote.Ref.{Bor}
use Rattle.std.specs.Prelude.{ℕ, ◌+◌, ◌-◌, ◌*◌, ◌==◌, ◌&&◌, nat_le, nat_lt, List, [], ◌∷◌, length, map, filter, replicate, Vec, Option, Some, None, option_and_then, if◌then◌else◌}
use Rattle.std.specs.Global.{Global}
use Rattle.std.specs.Option.{option_map}
use Rattle.std.specs.List.{slice_split, list_all, before_first, after_first, position_or_len}
use Rattle.arrayvec.specs.ArrayVec.{ArrayVec}
use Rattle.strm_script_text.specs.Bytes.{is_blank, is_digit, is_of_name, is_itself, hex_of}
use Rattle.strm_script_text.specs.declared.parts.TheConstants.{MOST_TIMES}
use Rattle.strm_script_text.specs.declared.words.TheConstants.{MOST_DIGITS}

infixl 10 ◌>>=◌
abbrev pub ◌>>=◌ : {A B : Type 0} → Option A → (A → Option B) → Option B
found >>= next = option_and_then next found

-- the texts that slices are
abbrev pub texts_of : List (Bor (List ℕ)) → List (List ℕ)
texts_of slices = map (λ slice. slice.now) slices

-- the fields of a line: the texts between blanks
abbrev pub fields_of : List ℕ → List (List ℕ)
fields_of line = filter (λ field. nat_lt 0 (length field)) (slice_split is_blank line)

-- the field of a text between blanks, if it has a byte (no public clause cites it)
abbrev pub field_in : List ℕ → List (List ℕ)
field_in text = filter (λ field. nat_lt 0 (length field)) (text ∷ [])

-- the place of the first of a byte (no public clause cites it)
abbrev pub place_of : ℕ → List ℕ → Option ℕ
place_of byte text =
    if nat_lt (position_or_len (λ other. other == byte) text) (length text) then Some (position_or_len (λ other. other == byte) text)
    else None

-- the text before the first of a byte, and the text behind it
abbrev pub halves_of : ℕ → List ℕ → Option (List ℕ × List ℕ)
halves_of byte text =
    if nat_lt (position_or_len (λ other. other == byte) text) (length text) then Some (before_first (λ other. other == byte) text, after_first (λ other. other == byte) text)
    else None

-- the number of `value` with these digits behind it
abbrev pub number_from : ℕ → List ℕ → Option ℕ
number_from value [] = Some value
number_from value (digit ∷ digits) = if is_digit digit then number_from (value * 10 + (digit - 48)) digits else None

-- the value, if it is at most `most`
abbrev pub limited : ℕ → ℕ → Option ℕ
limited most value = if nat_le value most then Some value else None

-- the number of 1 to `MOST_DIGITS` digits, if it is at most `most`
abbrev pub number_of : ℕ → List ℕ → Option ℕ
number_of most text =
    if nat_le 1 (length text) && nat_le (length text) MOST_DIGITS then (number_from 0 text >>= limited most)
    else None

-- the bytes of a name
abbrev pub name_text : ArrayVec ℕ → List ℕ
name_text name = name.items

abbrev pub name_texts : List (ArrayVec ℕ) → List (List ℕ)
name_texts names = map name_text names

-- a name of 1 to `longest` digits, letters and `_`
abbrev pub name_of : ℕ → List ℕ → Option (List ℕ)
name_of longest text =
    if nat_le 1 (length text) && nat_le (length text) longest && list_all is_of_name text then Some text else None

-- the byte that two hexadecimal digits spell
abbrev pub byte_of : ℕ → ℕ → Option ℕ
byte_of high low = hex_of high >>= λ h. hex_of low >>= λ l. Some (h * 16 + l)

-- the byte at the front, by itself or as `%hh`, and the text behind it (no public clause cites it)
abbrev pub next_byte : List ℕ → Option (ℕ × List ℕ)
next_byte [] = None
next_byte (a ∷ []) = if is_itself a then Some (a, []) else None
next_byte (a ∷ b ∷ []) = if is_itself a then Some (a, b ∷ []) else None
next_byte (a ∷ b ∷ c ∷ rest) =
    if is_itself a then Some (a, b ∷ c ∷ rest)
    else (if a == 37 then (byte_of b c >>= λ byte. Some (byte, rest)) else None)

-- the bytes that were found, if any were
abbrev pub found_bytes : Option (Vec ℕ Global) → Option (List ℕ)
found_bytes found = option_map (λ all. all.items) found

-- the bytes that a text spells
abbrev pub bytes_of : List ℕ → Option (List ℕ)
bytes_of [] = Some []
bytes_of (a ∷ []) = if is_itself a then Some (a ∷ []) else None
bytes_of (a ∷ b ∷ []) = if is_itself a then option_map (λ bytes. a ∷ bytes) (bytes_of (b ∷ [])) else None
bytes_of (a ∷ b ∷ c ∷ rest) =
    if is_itself a then option_map (λ bytes. a ∷ bytes) (bytes_of (b ∷ c ∷ rest))
    else (if a == 37 then (byte_of b c >>= λ byte. option_map (λ bytes. byte ∷ bytes) (bytes_of rest)) else None)

-- the byte of exactly two hexadecimal digits
abbrev pub two_digits : List ℕ → Option ℕ
two_digits (a ∷ b ∷ []) = byte_of a b
two_digits _ = None

-- the count, 0 to `MOST_TIMES`, and the byte of `N:hh`
abbrev pub times_of : List ℕ → Option (ℕ × ℕ)
times_of text = halves_of 58 text >>= λ halves. number_of MOST_TIMES halves.0 >>= λ count. two_digits halves.1 >>= λ byte. Some (count, byte)

-- the byte, repeated that many times
abbrev pub repeated_of : List ℕ → Option (List ℕ)
repeated_of text = option_map (λ times. replicate times.0 times.1) (times_of text)

-- the bytes of a part: `=` and their spelling, or `*` and one byte that many times
abbrev pub part_of : List ℕ → Option (List ℕ)
part_of [] = None
part_of (mark ∷ text) = if mark == 61 then bytes_of text else (if mark == 42 then repeated_of text else None)
