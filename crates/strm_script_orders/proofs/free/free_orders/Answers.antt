use Rattle.std.proofs.Common.{◌-◌, ◌^◌, drop, length, min, sym, ap, ◌∙◌, arith}
use Rattle.std.proofs.lemmas.List.{drop_all}
use Rattle.strm_script_orders.specs.Free as says
use Rattle.strm_script_orders.proofs.FreeLemmas.{free_by, free_none, one_before, steps_before}
use Rattle.strm_script_orders.proofs.free.free_orders.Goals as goal

pub loop-number-init : goal.loop-number-init
loop-number-init c =
    let none = drop_all (length c.args.lanes.now) c.args.lanes.now (omega arith) in
    record {
      within = omega arith;
      steps = sym (ap (λ lanes. says.total (says.lefts lanes)) none);
      orders = sym (ap (λ lanes. min (says.free_orders (says.lefts lanes)) (2 ^ 64 - 1)) none ∙ ap (λ n. min n (2 ^ 64 - 1)) free_none);
    }

pub ways-requires : goal.ways-requires
ways-requires c =
    let before = steps_before c.args.lanes.now c.loop-number.number c.index-lanes-number.result c.loop-number-test.true c.loop-number.invariant.within c.index-lanes-number.is in
    omega (arith, before, c.left-left.ensures, c.loop-number.invariant.steps, c.requires)

pub overflow_add-steps : goal.overflow_add-steps
overflow_add-steps c =
    let before = steps_before c.args.lanes.now c.loop-number.number c.index-lanes-number.result c.loop-number-test.true c.loop-number.invariant.within c.index-lanes-number.is in
    omega (arith, before, c.left-left.ensures, c.loop-number.invariant.steps, c.requires)

pub loop-number-preserved : goal.loop-number-preserved
loop-number-preserved c =
    let lane = c.index-lanes-number.result in
    let lanes = c.args.lanes.now in
    let was = c.loop-number.invariant in
    let here = one_before lanes c.loop-number.number lane c.loop-number-test.true was.within c.index-lanes-number.is in
    record {
      within = omega (arith, was.within);
      steps = rw here (omega (arith, was.steps, c.left-left.ensures));
      orders = rw here (free_by lane (drop c.loop-number.number lanes) c.loop-number.steps c.loop-number.orders c.ways.result c.saturating_mul-orders.result was.steps was.orders (c.ways.ensures ∙ ap (λ n. min (says.ways n c.loop-number.steps) (2 ^ 64 - 1)) c.left-left.ensures) c.saturating_mul-orders.ensures);
    }
