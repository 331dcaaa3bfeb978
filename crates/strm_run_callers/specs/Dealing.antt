-- The callers of a run: their seats, and the workers that play them.
use Rattle.std.specs.Prelude.{◌≡◌, ℕ, zero, suc, true, ◌<◌, ◌==◌, ◌%◌, List, [], ◌∷◌, ◌++◌, filter, get_or, length, Vec}
use Rattle.std.specs.Global.{Global}
use Rattle.strm_shared.specs.Seat.{SeatValue}
use Rattle.strm_run_callers.specs.RunName.{RunValue}

-- the seats of each caller, in order of the streams, that have made no call
pub record AreSeated {K : Type 0} (run : RunValue K) (seats : List (Vec SeatValue Global)) : Type 0 where
  pub many : length seats ≡ length run.scripts
  pub long : (caller : ℕ) (d : Vec SeatValue Global) → caller < length run.scripts → length (get_or seats caller d).items ≡ length run.setups
  pub each : (caller k : ℕ) (d : Vec SeatValue Global) (x : SeatValue) → caller < length run.scripts → k < length run.setups → get_or (get_or seats caller d).items k x ≡ record { number = k; caller = caller; calls = 0; shown = true }

-- this many callers, in order
abbrev pub callers_of : ℕ → List ℕ
callers_of zero = []
callers_of (suc n) = callers_of n ++ n ∷ []

-- each worker has the callers whose number modulo the workers is its own, in order
pub record AreDealt (callers : List ℕ) (workers : ℕ) (crews : List (Vec ℕ Global)) : Type 0 where
  pub many : length crews ≡ workers
  pub each : (worker : ℕ) (d : Vec ℕ Global) → worker < workers → (get_or crews worker d).items ≡ filter (λ caller. caller % workers == worker) callers
