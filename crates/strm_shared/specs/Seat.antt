-- The seats of callers.
use Rattle.std.specs.Prelude.{ℕ, ◌+◌, ◌&&◌, Bool}

-- a caller's seat: the number of the stream, that of the caller, the number of its calls that were made, and
-- whether each has a receipt
pub record SeatValue : Type 0 where
  pub number : ℕ
  pub caller : ℕ
  pub calls : ℕ
  pub shown : Bool

-- a seat after one call more, which has a receipt or has none
abbrev pub after_call : SeatValue → Bool → SeatValue
after_call seat has_receipt = record seat { calls = seat.calls + 1; shown = seat.shown && has_receipt }
