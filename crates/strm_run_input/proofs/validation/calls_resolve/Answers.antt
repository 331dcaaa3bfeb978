use Rattle.std.proofs.Common.{◌≡◌, true}
use Rattle.std.specs.Prelude.{slice_get}
use Rattle.strm_run_input.specs.declared.script.ScriptCall.{ScriptCall}
use Rattle.strm_run_input.specs.Resolve.{end_is_there}
use Rattle.strm_run_input.proofs.EachLemmas.{each_more, of_this}
use Rattle.strm_run_input.proofs.validation.calls_resolve.Goals as goal

pub returns-then-not-end_is_there : goal.returns-then-not-end_is_there
returns-then-not-end_is_there g c = (
  (λ is. absurd cc),
  (λ all. absurd (cc (of_this (λ (one : ScriptCall g.row.P.Denot). end_is_there (slice_get c.args.setups.now one.stream) one.call.end ≡ true) c.args.calls.now c.loop-one.one-index c.one-item.result c.loop-one-test.true c.one-item.is all, c.end_is_there.ensures, c.if-not-end_is_there.true))),
)

pub loop-one-preserved : goal.loop-one-preserved
loop-one-preserved g c =
    each_more (λ (one : ScriptCall g.row.P.Denot). end_is_there (slice_get c.args.setups.now one.stream) one.call.end ≡ true) c.args.calls.now c.loop-one.one-index c.one-item.result c.loop-one-test.true c.one-item.is c.loop-one.invariant cc
