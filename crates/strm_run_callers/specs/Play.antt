-- The streams and callers of a run, while it goes on.
use Rattle.std.specs.Prelude.{◌≡◌, ℕ, ◌+◌, ◌<◌, ◌^◌, List, ◌++◌, All, drop, get_or, length}
use prog.Memory.{size}
use mir.Syntax.{Ty}
use denote.Plain.{Nothing}
use denote.RattleType.{RattleType}
use denote.Param.{layout}
use Rattle.strm_module.specs.declared.shape.Shape.{Shape}
use Rattle.strm_module.specs.declared.vocabulary.Kinds.{Ghosts}
use Rattle.strm_module.specs.contracts.boxed.BoxedModule as boxed
use Rattle.strm_head_calls.specs.declared.setup.Setup.{Setup}
use Rattle.strm_shared_entry.specs.contracts.call.Called as called
use Rattle.strm_shared.specs.Seat.{SeatValue}
use Rattle.strm_shared.specs.Ending.{SharedValue}
use Rattle.strm_run_input.specs.declared.script.ScriptCall.{ScriptCall}
use Rattle.strm_run_input.specs.Scripts.{calls_on, script_of}
use Rattle.strm_run_callers.specs.Account.{AccountValue}
use Rattle.strm_run_callers.specs.RunName.{RunValue}

-- a value of this layout fits into memory; a fact that a proof passes on as it is
unfoldable pub Fits : Ty → Type 0
Fits of = size of < 2 ^ 63

-- the outcome of a call fits into memory (`CallsFit`), passed on
abbrev pub CallsDoFit : (M K : RattleType) → Ghosts K.Denot → Type 0
CallsDoFit M K kinds = Fits (layout (called.the_row (boxed.the_row M K kinds) K Nothing))

-- the streams of a run, in order, shared by its callers
pub record AreStreams {K : Type 0} (run : RunValue K) (streams : List SharedValue) : Type 0 where
  pub many : length streams ≡ length run.setups
  pub each : (k : ℕ) (d : SharedValue) (s : Setup) → k < length streams → get_or streams k d ≡ record { number = k; setup = get_or run.setups k s; seats = length run.scripts }

-- a caller's seat on a stream, when these calls are left of its script
pub record IsSeated {K : Type 0} (run : RunValue K) (caller k : ℕ) (left : List (ScriptCall (Shape K))) (seat : SeatValue) : Type 0 where
  pub number : seat.number ≡ k
  pub caller_is : seat.caller ≡ caller
  pub next : drop seat.calls (calls_on k (script_of run.scripts caller)) ≡ calls_on k left
  pub many : seat.calls + length (calls_on k left) ≡ length (calls_on k (script_of run.scripts caller))

-- a caller that has these calls left, each on a stream that is there, with a seat on each stream
pub record IsPlayer {K : Type 0} (run : RunValue K) (caller : ℕ) (left : List (ScriptCall (Shape K))) (accounts : List (AccountValue K)) : Type 0 where
  pub many : length accounts ≡ length run.setups
  pub there : All (λ one. one.stream < length run.setups) left
  pub seated : (k : ℕ) (d : AccountValue K) → k < length accounts → IsSeated run caller k left (get_or accounts k d).seat

-- a seat of a caller that has played its script on a stream
pub record HasPlayed {K : Type 0} (run : RunValue K) (k : ℕ) (seat : SeatValue) : Type 0 where
  pub number : seat.number ≡ k
  pub calls : seat.calls ≡ length (calls_on k (script_of run.scripts seat.caller))

-- a caller that has played its script, with a seat on each stream
pub record ArePlayed {K : Type 0} (run : RunValue K) (accounts : List (AccountValue K)) : Type 0 where
  pub many : length accounts ≡ length run.setups
  pub each : (k : ℕ) (d : AccountValue K) → k < length accounts → HasPlayed run k (get_or accounts k d).seat

-- these calls are the next of a caller, which has others behind them
abbrev pub HasPrefixCalls : {K : Type 0} → RunValue K → ℕ → List (ScriptCall (Shape K)) → List (AccountValue K) → Type 0
HasPrefixCalls {K} run caller calls accounts = (others : List (ScriptCall (Shape K))) × IsPlayer run caller (calls ++ others) accounts

-- of a caller that had these calls, and others behind them, those calls are left now, and the same others
abbrev pub KeepsLaterCalls : {K : Type 0} → RunValue K → ℕ → List (ScriptCall (Shape K)) → List (AccountValue K) → List (ScriptCall (Shape K)) → List (AccountValue K) → Type 0
KeepsLaterCalls {K} run caller calls accounts left now = (others : List (ScriptCall (Shape K))) → IsPlayer run caller (calls ++ others) accounts → IsPlayer run caller (left ++ others) now
