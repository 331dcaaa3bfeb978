use Rattle.std.proofs.Common.{◌≡◌, ℕ, ◌++◌, ◌≤◌, length, get_or, Vec, Global}
use Rattle.std.specs.Vec.Iter.{into_iter_items, into_iter_len}
use Rattle.strm_shared.specs.Seat.{SeatValue}
use Rattle.strm_run_callers.specs.Dealing.{callers_of}
use Rattle.strm_run_callers.proofs.dealing.seated.Given as goal

-- the callers so far sit, and the seats of the others are there
abbrev pub invariant-loop-script : goal.invariant-loop-script
invariant-loop-script g l = record {
  left : into_iter_len l.script-iterator ≡ length (into_iter_items l.script-iterator);
  rest : l.yielded ++ into_iter_items l.script-iterator ≡ l.fn.scripts.items;
  place : l.caller ≡ length l.yielded;
  many : length l.seats.items ≡ length l.fn.scripts.items;
  behind : (k : ℕ) (d : Vec SeatValue Global) → l.caller ≤ k → get_or l.seats.items k d ≡ get_or l.fn.seats.items k d;
  players : l.all.items ≡ callers_of l.caller;
}
