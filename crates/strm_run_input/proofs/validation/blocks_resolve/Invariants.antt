use Rattle.std.proofs.Common.{ℕ, ◌<◌, get_or, Vec, Global}
use Rattle.strm_run_input.specs.declared.script.ScriptCall.{ScriptCall}
use Rattle.strm_run_input.specs.Resolve.{CallsResolve}
use Rattle.strm_run_input.proofs.validation.blocks_resolve.Given as goal

-- what the calls of each block so far name is there
abbrev pub invariant-loop-block : goal.invariant-loop-block
invariant-loop-block g l =
    (k : ℕ) (d : Vec (ScriptCall g.row.P.Denot) Global) → k < l.block-index → CallsResolve l.setups (get_or l.blocks k d).items
