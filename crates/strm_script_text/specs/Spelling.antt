-- The spelling of bytes in a part, as a script may have it and a transcript has it.
use Rattle.std.specs.Prelude.{◌≡◌, ℕ, ◌+◌, ◌<◌, ◌/◌, ◌%◌, nat_lt, List, [], ◌∷◌, All, Some, if◌then◌else◌}
use Rattle.std.specs.List.{flat_map}
use Rattle.strm_script_text.specs.Bytes.{is_itself}
use Rattle.strm_script_text.specs.Text.{part_of}

-- the hexadecimal digit of a number below 16, in lower case
abbrev pub hex_digit : ℕ → ℕ
hex_digit n = if nat_lt n 10 then n + 48 else n + 87

-- the spelling of a byte: by itself if it stands for itself, else `%hh`
abbrev pub spelling_of : ℕ → List ℕ
spelling_of byte = if is_itself byte then byte ∷ [] else 37 ∷ hex_digit (byte / 16) ∷ hex_digit (byte % 16) ∷ []

-- the spelling of bytes, one after another
abbrev pub spelling : List ℕ → List ℕ
spelling bytes = flat_map spelling_of bytes

-- the text of bytes as a part
abbrev pub part_text : List ℕ → List ℕ
part_text bytes = 61 ∷ spelling bytes

-- the text of bytes as a part is read as these bytes
abbrev pub PartsAreReadBack : Type 0
PartsAreReadBack = (bytes : List ℕ) → All (λ byte. byte < 256) bytes → part_of (part_text bytes) ≡ Some bytes
