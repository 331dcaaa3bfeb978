use Rattle.std.proofs.Common.{◌≡◌, ◌+◌, ◌++◌, length}
use Rattle.rtrb.specs.Ring.{received, known_items}
use Rattle.strm_shared_ring.proofs.inlet.drained.Given as goal
use Rattle.strm_shared_ring.specs.Inlet.{GrowsWith}

-- what was popped is left behind what was left before, and the rest is still in the ring
abbrev pub invariant-loop-at : goal.invariant-loop-at
invariant-loop-at l = record {
  many : length (known_items l.ring) + l._at ≡ l.many;
  all : received l.ring ++ known_items l.ring ≡ received l.initial.ring ++ known_items l.initial.ring;
  same : received l.initial.ring ≡ received l.fn.ring;
  left : GrowsWith l.fn.left.items (received l.fn.ring) l.left.items (received l.ring);
}
