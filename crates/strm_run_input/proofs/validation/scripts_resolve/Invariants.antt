use Rattle.std.proofs.Common.{ℕ, ◌<◌, List, get_or}
use Rattle.strm_run_input.specs.declared.script.ScriptCall.{ScriptCall}
use Rattle.strm_run_input.specs.Resolve.{CallsResolve}
use Rattle.strm_run_input.proofs.validation.scripts_resolve.Given as goal

-- what the calls of each script so far name is there
abbrev pub invariant-loop-script : goal.invariant-loop-script
invariant-loop-script g l =
    (k : ℕ) (d : List (ScriptCall g.row.P.Denot)) → k < l.script-index → CallsResolve l.setups (get_or l.scripts k d)
