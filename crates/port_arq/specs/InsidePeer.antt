-- What is always so at an end of a link; only inner contracts cite it.
use Rattle.std.specs.Prelude.{ℕ, ◌+◌, ◌<◌, ◌≤◌, List, length}
use Rattle.port_arq.specs.declared.peer.TheConstants.{MOST_WINDOW, MOST_MESSAGES}

pub record IsPeer (window interval acknowledged : ℕ) (waiting : List (List ℕ)) (sent ticks awaited : ℕ) : Type 0 where
  -- the window is one that can be, and the messages that wait fit into it
  pub least : 0 < window
  pub most : window ≤ MOST_WINDOW
  pub room : length waiting ≤ window
  -- numbers do not go round
  pub numbers : acknowledged + length waiting ≤ MOST_MESSAGES
  pub next : awaited ≤ MOST_MESSAGES
  -- only what waits was sent, and the timer has not run out
  pub within : sent ≤ length waiting
  pub timer : ticks < interval
