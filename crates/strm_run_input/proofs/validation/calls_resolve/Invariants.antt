use Rattle.std.proofs.Common.{◌≡◌, ℕ, ◌<◌, true, get_or}
use Rattle.std.specs.Prelude.{slice_get}
use Rattle.strm_run_input.specs.declared.script.ScriptCall.{ScriptCall}
use Rattle.strm_run_input.specs.Resolve.{end_is_there}
use Rattle.strm_run_input.proofs.validation.calls_resolve.Given as goal

-- the stream and the end of each call so far are there
abbrev pub invariant-loop-one : goal.invariant-loop-one
invariant-loop-one g l =
    (k : ℕ) (d : ScriptCall g.row.P.Denot) → k < l.one-index → end_is_there (slice_get l.setups (get_or l.calls k d).stream) (get_or l.calls k d).call.end ≡ true
