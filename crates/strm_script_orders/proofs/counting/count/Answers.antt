use Rattle.std.proofs.Common.{◌≡◌, ◌+◌, refl, zero-add, arith, ap, sym, ◌∙◌}
use Rattle.strm_script_orders.specs.Counting.{orders_left, orders_of}
use Rattle.strm_script_orders.specs.Lanes.{at_start, steps_left}
use Rattle.strm_script_orders.proofs.LaneLemmas.{started_twice}
use Rattle.strm_script_orders.proofs.PlayLemmas.{advanced, at_last, counted_more, path_after}
use Rattle.strm_script_orders.proofs.counting.count.Goals as goal

pub returns-in_err-order-clause-same : goal.returns-in_err-order-clause-same
returns-in_err-order-clause-same c = ap at_start c.start_again.ensures ∙ started_twice c.args.lanes.now

pub loop-count-init : goal.loop-count-init
unfolding orders_of
loop-count-init c =
    let all = ap steps_left c.start_again.ensures in
    rw c.in_ok-order.ensures.order (record {
      start = c.start_again.ensures;
      path = tt;
      made = refl;
      room = omega (arith, all, c.steps_left.ensures, c.in_ok-order.ensures.few);
      all = zero-add _;
      few = omega arith;
    })

pub loop-count-preserved : goal.loop-count-preserved
loop-count-preserved c =
    let was = c.loop-count.invariant in
    let start = at_start c.args.lanes.now in
    let more = advanced _ c.advance.new.self.choices c.advance.result c.advance.ensures.next c.if-not-advance.false c.advance.ensures.choices in
    let counted = counted_more start c.loop-count.lanes c.loop-count.order.choices c.play_out.new.order.choices c.loop-count.count (orders_of start) was.start c.play_out.ensures.played c.play_out.ensures.begun was.all in
    record {
      start = c.start_again-in-loop-count.ensures ∙ c.play_out.ensures.same ∙ ap at_start was.start ∙ started_twice c.args.lanes.now;
      path = path_after start c.loop-count.lanes c.play_out.new.order.choices c.advance.new.self.choices was.start c.play_out.ensures.played more;
      made = c.advance.ensures.made;
      room = omega (arith, was.room, c.play_out.ensures.steps, c.advance.ensures.steps);
      all = ap (λ later. c.loop-count.count + 1 + orders_left (steps_left start) later start) (sym more) ∙ counted;
      few = omega (arith, c.loop-count-test.true);
    }

pub returns-then-not-advance-clause-count : goal.returns-then-not-advance-clause-count
returns-then-not-advance-clause-count c =
    let was = c.loop-count.invariant in
    let start = at_start c.args.lanes.now in
    let none = at_last _ c.advance.result c.advance.ensures.next c.if-not-advance.true in
    let counted = counted_more start c.loop-count.lanes c.loop-count.order.choices c.play_out.new.order.choices c.loop-count.count (orders_of start) was.start c.play_out.ensures.played c.play_out.ensures.begun was.all in
    let left : orders_left (steps_left start) _ start ≡ 0 = ap (λ later. orders_left (steps_left start) later start) none in
    omega (arith, counted, left, c.loop-count-test.true)

pub returns-then-not-advance-clause-same : goal.returns-then-not-advance-clause-same
returns-then-not-advance-clause-same c = c.play_out.ensures.same ∙ ap at_start c.loop-count.invariant.start ∙ started_twice c.args.lanes.now

pub returns-clause-same : goal.returns-clause-same
returns-clause-same c = ap at_start c.loop-count.invariant.start ∙ started_twice c.args.lanes.now

pub returns-in-Some-clause-same : goal.returns-in-Some-clause-same
returns-in-Some-clause-same c = ap at_start c.start_again.ensures ∙ started_twice c.args.lanes.now
