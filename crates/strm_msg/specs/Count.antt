-- Counts that stop at the greatest number that a u64 has.
use Rattle.std.specs.Prelude.{ℕ, ◌+◌, min}

-- one more, up to the greatest u64
abbrev pub one_more : ℕ → ℕ
one_more n = min (n + 1) 18446744073709551615
