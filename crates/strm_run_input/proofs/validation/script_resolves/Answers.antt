use Rattle.std.proofs.Common.{◌≡◌, true, List, slice_get, subst, sym}
use Rattle.strm_run_input.specs.declared.script.ScriptCall.{ScriptCall}
use Rattle.strm_run_input.specs.Resolve.{end_is_there, CallsResolve}
use Rattle.strm_run_input.proofs.BlockLemmas.{all_blocks, all_calls}
use Rattle.strm_run_input.proofs.validation.script_resolves.Goals as goal

pub returns-then-blocks_resolve : goal.returns-then-blocks_resolve
returns-then-blocks_resolve g c =
    let holds = λ (one : ScriptCall g.row.P.Denot). end_is_there (slice_get c.args.setups.now one.stream) one.call.end ≡ true in
    let each = c.blocks_resolve.ensures.0 c.if-blocks_resolve.true in (
      (λ yes. subst (λ (calls : List (ScriptCall g.row.P.Denot)). CallsResolve c.args.setups.now calls) (sym c.blocks-2.ensures) (all_calls holds c.blocks-2.result.0.now c.blocks-2.result.1.now each (c.calls_resolve.ensures.0 yes))),
      (λ all. c.calls_resolve.ensures.1 ((all_blocks holds c.blocks-2.result.0.now c.blocks-2.result.1.now (subst (λ (calls : List (ScriptCall g.row.P.Denot)). CallsResolve c.args.setups.now calls) c.blocks-2.ensures all)).1)),
    )

pub returns-else-blocks_resolve : goal.returns-else-blocks_resolve
returns-else-blocks_resolve g c =
    let holds = λ (one : ScriptCall g.row.P.Denot). end_is_there (slice_get c.args.setups.now one.stream) one.call.end ≡ true in (
      (λ yes. absurd (cc (yes, c.if-blocks_resolve.false))),
      (λ all. c.blocks_resolve.ensures.1 ((all_blocks holds c.blocks-2.result.0.now c.blocks-2.result.1.now (subst (λ (calls : List (ScriptCall g.row.P.Denot)). CallsResolve c.args.setups.now calls) c.blocks-2.ensures all)).0)),
    )
