-- The logs of the streams of a run.
use Rattle.std.specs.Prelude.{ℕ, zero, suc, List, [], ◌∷◌}
use Rattle.strm_shared_entry.specs.Entry.{Entry}
use Rattle.strm_shared_entry.specs.declared.transcript.StreamLog.{StreamLog}

-- the history of a stream; past the last there is none
abbrev pub history_at : {K : Type 0} → List (StreamLog K) → ℕ → List (Entry K)
history_at [] number = []
history_at (log ∷ rest) zero = log.history.items
history_at (log ∷ rest) (suc number) = history_at rest number
