-- The lines of streams, each by itself.
use Rattle.std.specs.Prelude.{◌≡◌, ℕ, ◌<◌, List, Vec, length, get_or}
use Rattle.std.specs.Global.{Global}
use Rattle.std.specs.List.{flat_map}
use Rattle.strm_shared_entry.specs.declared.transcript.StreamLog.{StreamLog}
use Rattle.strm_script_parse.specs.Plan.{NamesValue}
use Rattle.strm_script_print.specs.Fields.{KindSpelling}
use Rattle.strm_script_print.specs.Lines.{numbered_text}

-- logs, each with the number of its stream
pub record AreNumbered {K : Type 0} (logs : List (StreamLog K)) (all : List (ℕ × StreamLog K)) : Type 0 where
  pub many : length all ≡ length logs
  pub each : (k : ℕ) (d : ℕ × StreamLog K) (log : StreamLog K) → k < length logs → get_or all k d ≡ (k, get_or logs k log)

-- these are the lines of the stream of this number
abbrev pub AreLinesOf : {K : Type 0} → KindSpelling K → NamesValue → ℕ → StreamLog K → Vec ℕ Global → Type 0
AreLinesOf spelling names number log text = text.items ≡ numbered_text spelling names number log

-- the lines of each stream, in order
pub record AreLines {K : Type 0} (spelling : KindSpelling K) (names : NamesValue) (logs : List (StreamLog K)) (all : List (Vec ℕ Global)) : Type 0 where
  pub many : length all ≡ length logs
  pub each : (k : ℕ) (d : Vec ℕ Global) (log : StreamLog K) → k < length logs → AreLinesOf spelling names k (get_or logs k log) (get_or all k d)

-- texts, one after another
abbrev pub joined : List (Vec ℕ Global) → List ℕ
joined texts = flat_map (λ text. text.items) texts
