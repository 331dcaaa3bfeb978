use Rattle.strm_queue.proofs.Flushing.{IsFlushing}
use Rattle.strm_queue.proofs.lanes.flush_all.Given as goal

-- the lanes before the i-th are flushed
abbrev pub invariant-loop-i : goal.invariant-loop-i
invariant-loop-i l = IsFlushing l.initial.lanes.items l.lanes.items l.i l.removed
