-- The modes of a terminal as the four bytes that its ioctls carry (TCGETS and TCSETS of termio(7) in small).
use Rattle.std.specs.Prelude.{ℕ, ◌+◌, ◌==◌, ◌&&◌, not, nat_lt, Bool, Option, Some, None, List, [], ◌∷◌, if◌then◌else◌, get_or, length, bit_and}
use Rattle.port_termio.specs.declared.modes.Modes.{Modes}

-- the greatest byte comes first; ICANON counts 1, ECHO 2, ICRNL 4 and ONLCR 8
abbrev pub modes_number : Modes → ℕ
modes_number modes =
    (if modes.icanon then 1 else 0) + (if modes.echo then 2 else 0) + (if modes.icrnl then 4 else 0) + (if modes.onlcr then 8 else 0)

abbrev pub modes_bytes : Modes → List ℕ
modes_bytes modes = 0 ∷ 0 ∷ 0 ∷ modes_number modes ∷ []

abbrev pub has_mode : ℕ → ℕ → Bool
has_mode number mode = not (bit_and number mode == 0)

abbrev pub modes_of : ℕ → Modes
modes_of number = record {
  icanon = has_mode number 1;
  echo = has_mode number 2;
  icrnl = has_mode number 4;
  onlcr = has_mode number 8;
}

-- whether bytes are modes: four of them, and no more than all modes together
abbrev pub are_modes : List ℕ → Bool
are_modes bytes =
    (length bytes == 4) && (get_or bytes 0 0 == 0) && (get_or bytes 1 0 == 0) && (get_or bytes 2 0 == 0) && nat_lt (get_or bytes 3 0) 16

abbrev pub modes_in : List ℕ → Option Modes
modes_in bytes = if are_modes bytes then Some (modes_of (get_or bytes 3 0)) else None
