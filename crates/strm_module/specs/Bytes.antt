-- Functions of the bytes of a data part, for modules.
use Rattle.std.specs.Prelude.{ℕ, ◌-◌, ◌==◌, not, Bool, List, [], ◌∷◌, if◌then◌else◌, map, take, drop, length, slice_index}
use Rattle.std.specs.List.{flat_map, suffix_len}

-- each byte as a table of 256 entries gives it
abbrev pub mapped : List ℕ → List ℕ → List ℕ
mapped table bytes = map (λ b. slice_index table b) bytes

abbrev pub is_cr : ℕ → Bool
is_cr b = b == 13

abbrev pub is_lf : ℕ → Bool
is_lf b = b == 10

-- the bytes with CR LF for each LF
abbrev pub with_cr : List ℕ → List ℕ
with_cr bytes = flat_map (λ b. if is_lf b then 13 ∷ 10 ∷ [] else b ∷ []) bytes

-- the bytes without each CR that an LF directly follows
abbrev pub without_cr : List ℕ → List ℕ
without_cr [] = []
without_cr (a ∷ []) = a ∷ []
without_cr (a ∷ (b ∷ bytes)) =
    let after = without_cr (b ∷ bytes) in
    if is_cr a then (if is_lf b then after else a ∷ after) else a ∷ after

-- the number of bytes after the last LF; all of them where there is no LF
abbrev pub rest_len : List ℕ → ℕ
rest_len bytes = suffix_len (λ b. not (is_lf b)) bytes

-- the whole lines at the front, each with its LF
abbrev pub whole_lines : List ℕ → List ℕ
whole_lines bytes = take (length bytes - rest_len bytes) bytes

-- the bytes that follow the whole lines
abbrev pub rest_of_line : List ℕ → List ℕ
rest_of_line bytes = drop (length bytes - rest_len bytes) bytes
