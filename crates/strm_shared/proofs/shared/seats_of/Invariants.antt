use Rattle.std.proofs.Common.{◌≡◌}
use Rattle.strm_shared.specs.Ending.{fresh_seats}
use Rattle.strm_shared.proofs.shared.seats_of.Given as goal

-- a seat for each caller so far
abbrev pub invariant-loop-caller : goal.invariant-loop-caller
invariant-loop-caller l = l.seats.items ≡ fresh_seats l.number l.caller
