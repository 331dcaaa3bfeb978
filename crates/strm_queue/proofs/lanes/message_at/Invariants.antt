use Rattle.std.proofs.Common.{◌≡◌, slice_get, drop}
use Rattle.strm_queue.specs.Lanes.{messages_of}
use Rattle.strm_queue.proofs.lanes.message_at.Given as goal

-- the message is that of the lanes that are left, at what is left of the place
abbrev pub invariant-loop-lane : goal.invariant-loop-lane
invariant-loop-lane l = slice_get (messages_of l.lanes) l.i ≡ slice_get (messages_of (drop l.lane-index l.lanes)) l.left
