use Rattle.strm_queue.specs.Lanes.{IsEmptyBefore}
use Rattle.strm_queue.proofs.lanes.first_filled.Given as goal

-- the lanes so far are empty
abbrev pub invariant-loop-at : goal.invariant-loop-at
invariant-loop-at l = IsEmptyBefore l.at l.lanes
