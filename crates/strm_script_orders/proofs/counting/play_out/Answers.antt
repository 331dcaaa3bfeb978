use Rattle.std.proofs.Common.{◌≡◌, ◌+◌, slice_get, arith, ap, ◌∙◌}
use Rattle.strm_script_orders.specs.Lanes.{goers, stepped_by, steps_left}
use Rattle.strm_script_orders.proofs.PlayLemmas.{goes, goes_on, has_played}
use Rattle.strm_script_orders.proofs.counting.play_out.Goals as goal

pub returns-then-many-eq0-clause-played : goal.returns-then-many-eq0-clause-played
returns-then-many-eq0-clause-played c =
    has_played c.args.lanes.now c.loop-many.lanes c.loop-many.order c.many-many.result c.loop-many.invariant.playing c.many-many.ensures c.if-many-eq0.true

pub loop-many-smaller : goal.loop-many-smaller
loop-many-smaller c =
    let fewer : steps_left c.step.new.self + 1 ≡ steps_left c.loop-many.lanes = goes (goers c.loop-many.lanes) c.next.result c.step.result c.step.ensures.number (omega (arith, c.many-many.ensures, c.next.ensures.below)) c.step.ensures.fewer in
    omega (arith, fewer)

pub loop-many-preserved : goal.loop-many-preserved
loop-many-preserved c =
    let lanes = c.loop-many.lanes in
    let many = c.many-many.result in
    let fewer : steps_left c.step.new.self + 1 ≡ steps_left lanes = goes (goers lanes) c.next.result c.step.result c.step.ensures.number (omega (arith, c.many-many.ensures, c.next.ensures.below)) c.step.ensures.fewer in
    let step = c.step.ensures.stepped ∙ ap (λ found. stepped_by found lanes) (c.step.ensures.number ∙ ap (slice_get (goers lanes)) c.next.ensures.choice) in
    let more = goes_on c.args.lanes.now lanes c.step.new.self c.loop-many.order many c.loop-many.invariant.playing c.many-many.ensures (omega (arith, c.if-many-eq0.false)) step fewer in
    rw c.next.ensures.kept (record {
      playing = more.playing;
      begun = more.begun ∙ c.loop-many.invariant.begun;
      steps = more.steps ∙ c.loop-many.invariant.steps;
      same = c.step.ensures.same ∙ c.loop-many.invariant.same;
    })
