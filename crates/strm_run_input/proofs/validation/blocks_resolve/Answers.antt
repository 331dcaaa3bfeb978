use Rattle.std.proofs.Common.{Vec, Global}
use Rattle.strm_run_input.specs.declared.script.ScriptCall.{ScriptCall}
use Rattle.strm_run_input.specs.Resolve.{CallsResolve}
use Rattle.strm_run_input.proofs.EachLemmas.{each_more, of_this}
use Rattle.strm_run_input.proofs.validation.blocks_resolve.Goals as goal

pub returns-then-not-calls_resolve : goal.returns-then-not-calls_resolve
returns-then-not-calls_resolve g c =
    let there = rw c.as_slice.ensures.value at c.calls_resolve.ensures in (
      (λ is. absurd cc),
      (λ all. absurd (cc (there.1 (of_this (λ (block : Vec (ScriptCall g.row.P.Denot) Global). CallsResolve c.args.setups.now block.items) c.args.blocks.now c.loop-block.block-index c.block-item.result c.loop-block-test.true c.block-item.is all), c.if-not-calls_resolve.true))),
    )

pub loop-block-preserved : goal.loop-block-preserved
loop-block-preserved g c =
    let there = rw c.as_slice.ensures.value at c.calls_resolve.ensures in
    each_more (λ (block : Vec (ScriptCall g.row.P.Denot) Global). CallsResolve c.args.setups.now block.items) c.args.blocks.now c.loop-block.block-index c.block-item.result c.loop-block-test.true c.block-item.is c.loop-block.invariant (there.0 c.if-not-calls_resolve.false)
