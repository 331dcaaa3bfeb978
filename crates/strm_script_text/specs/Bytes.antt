-- The bytes of a script.
use Rattle.std.specs.Prelude.{ℕ, ◌-◌, ◌==◌, ◌&&◌, ◌||◌, Bool, not, nat_le, Option, Some, None, if◌then◌else◌}

-- whether a byte is at least `low` and at most `high`
abbrev pub is_within : ℕ → ℕ → ℕ → Bool
is_within low high byte = nat_le low byte && nat_le byte high

-- whether a byte separates fields: a space or a tab
abbrev pub is_blank : ℕ → Bool
is_blank byte = byte == 32 || byte == 9

-- whether a byte may be in a line that is no comment: a tab, and 0x20 to 0x7e
abbrev pub is_allowed : ℕ → Bool
is_allowed byte = byte == 9 || is_within 32 126 byte

abbrev pub is_digit : ℕ → Bool
is_digit byte = is_within 48 57 byte

-- whether a byte may be in a name: a digit, a letter or `_`
abbrev pub is_of_name : ℕ → Bool
is_of_name byte = is_digit byte || is_within 97 122 byte || is_within 65 90 byte || byte == 95

-- whether a byte stands for itself in a part: 0x21 to 0x7e, apart from `%`
abbrev pub is_itself : ℕ → Bool
is_itself byte = is_within 33 126 byte && not (byte == 37)

-- the value of a hexadecimal digit, of either case
abbrev pub hex_of : ℕ → Option ℕ
hex_of byte =
    if is_digit byte then Some (byte - 48)
    else (if is_within 97 102 byte then Some (byte - 87) else (if is_within 65 70 byte then Some (byte - 55) else None))
