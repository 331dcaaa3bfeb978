-- The line that says how many orders were played.
use Rattle.std.specs.Prelude.{ℕ, List, ◌++◌, codes}
use Rattle.std.specs.Fmt.{decimal}

-- `strsh: P of N orders`, over the line before
abbrev pub played_text : ℕ → ℕ → List ℕ
played_text played many = codes "\rstrsh: " ++ decimal played ++ codes " of " ++ decimal many ++ codes " orders"
