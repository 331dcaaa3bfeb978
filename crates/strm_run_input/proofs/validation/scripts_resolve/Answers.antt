use Rattle.std.proofs.Common.{List}
use Rattle.strm_run_input.specs.declared.script.ScriptCall.{ScriptCall}
use Rattle.strm_run_input.specs.Resolve.{CallsResolve}
use Rattle.strm_run_input.proofs.EachLemmas.{each_more, of_this}
use Rattle.strm_run_input.proofs.validation.scripts_resolve.Goals as goal

pub returns-then-not-script_resolves : goal.returns-then-not-script_resolves
returns-then-not-script_resolves g c =
    let there = c.script_resolves.ensures in (
      (λ is. absurd cc),
      (λ all. absurd (cc (there.1 (of_this (λ (script : List (ScriptCall g.row.P.Denot)). CallsResolve c.args.setups.now script) c.args.scripts.now c.loop-script.script-index c.script-item.result c.loop-script-test.true c.script-item.is all), c.if-not-script_resolves.true))),
    )

pub loop-script-preserved : goal.loop-script-preserved
loop-script-preserved g c =
    let there = c.script_resolves.ensures in
    each_more (λ (script : List (ScriptCall g.row.P.Denot)). CallsResolve c.args.setups.now script) c.args.scripts.now c.loop-script.script-index c.script-item.result c.loop-script-test.true c.script-item.is c.loop-script.invariant (there.0 c.if-not-script_resolves.false)
