use Rattle.std.proofs.Common.{◌≡◌, [], arith}
use Rattle.std.specs.VecDeque.Iter.{deque_iter_rest}
use Rattle.std.proofs.lemmas.List.Sums.{sum_by-cons}
use Rattle.std.proofs.lemmas.List.{nil_from_length}
use Rattle.strm_msg.specs.Message.{weight_of}
use Rattle.strm_queue.proofs.LaneLemmas.{light_sum}
use Rattle.strm_queue.proofs.lane.weigh.Goals as goal

pub overflow_add-sum : goal.overflow_add-sum
overflow_add-sum c =
    let all = light_sum c.args.messages.now.items c.requires in
    let next = rw c.in-Some.ensures.steps at c.loop-m.invariant in
    let more = sum_by-cons weight_of c.in-Some.m.now (deque_iter_rest c.next.new.self) in
    let weight = rw c.deref.ensures at c.weight-sum.ensures.value in
    omega (arith, all, next, more, weight)

pub loop-m-preserved : goal.loop-m-preserved
loop-m-preserved c =
    let next = rw c.in-Some.ensures.steps at c.loop-m.invariant in
    let more = sum_by-cons weight_of c.in-Some.m.now (deque_iter_rest c.next.new.self) in
    let weight = rw c.deref.ensures at c.weight-sum.ensures.value in
    omega (arith, next, more, weight)

pub returns : goal.returns
returns c =
    let none : deque_iter_rest c.loop-m.m-iterator ≡ [] = nil_from_length _ c.in-None.ensures.steps.0 in
    let end = rw none at c.loop-m.invariant in
    omega (arith, end)
