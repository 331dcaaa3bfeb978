-- Columns and rows.
use Rattle.std.specs.Prelude.{◌≡◌, ℕ, ◌<◌, List, [], ◌∷◌, ◌++◌, get_or, length, Vec}
use Rattle.std.specs.Global.{Global}

-- each row has one element more, which the column has where the row is
pub record IsAdded {T : Type 0} (rows : List (Vec T Global)) (column : List T) (after : List (Vec T Global)) : Type 0 where
  pub many : length after ≡ length rows
  pub each : (i : ℕ) (d e : Vec T Global) (x : T) → i < length rows → (get_or after i d).items ≡ (get_or rows i e).items ++ get_or column i x ∷ []

-- each row has at each place the element of the column of that place where the row is
pub record IsTransposed {T : Type 0} (columns : List (Vec T Global)) (rows : ℕ) (all : List (Vec T Global)) : Type 0 where
  pub many : length all ≡ rows
  pub long : (i : ℕ) (d : Vec T Global) → i < rows → length (get_or all i d).items ≡ length columns
  pub each : (i k : ℕ) (d e : Vec T Global) (x : T) → i < rows → k < length columns → get_or (get_or all i d).items k x ≡ get_or (get_or columns k e).items i x
