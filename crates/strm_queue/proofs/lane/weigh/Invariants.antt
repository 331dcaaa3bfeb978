use Rattle.std.proofs.Common.{◌≡◌, ◌+◌, sum_by}
use Rattle.std.specs.VecDeque.Iter.{deque_iter_rest}
use Rattle.strm_msg.specs.Message.{weight_of}
use Rattle.strm_queue.proofs.lane.weigh.Given as goal

-- what is weighed, and what is left
abbrev pub invariant-loop-m : goal.invariant-loop-m
invariant-loop-m l = l.sum + sum_by weight_of (deque_iter_rest l.m-iterator) ≡ sum_by weight_of l.messages.items
