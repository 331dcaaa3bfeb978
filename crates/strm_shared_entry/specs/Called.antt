-- The outcome of a call on a stream that keeps its history.
use Rattle.std.specs.Prelude.{Bool, true, false, is_some}
use Rattle.strm_shared_entry.specs.declared.call.Called.{Called}
use Rattle.strm_shared_entry.specs.declared.call.Called.TheVariants.{Done, NoRoom}

-- the call was made
abbrev pub is_done : {P K A : Type 0} → Called P K A → Bool
is_done (Done answer back receipt) = true
is_done (NoRoom same) = false

-- it was made and has a receipt
abbrev pub has_receipt : {P K A : Type 0} → Called P K A → Bool
has_receipt (Done answer back receipt) = is_some receipt
has_receipt (NoRoom same) = false
