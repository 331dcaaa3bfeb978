use Rattle.std.proofs.Common.{◌≡◌, ◌++◌, length}
use Rattle.std.specs.Vec.Iter.{into_iter_items, into_iter_len}
use Rattle.strm_run.proofs.OpeningLemmas.{AreOpenedTo}
use Rattle.strm_run.proofs.opening.open.Given as goal

-- the streams of the rings so far are made, with their seats and feeders
abbrev pub invariant-loop-ring : goal.invariant-loop-ring
invariant-loop-ring g l = record {
  left : into_iter_len l.ring-iterator ≡ length (into_iter_items l.ring-iterator);
  rest : l.yielded ++ into_iter_items l.ring-iterator ≡ l.fn.rings.items;
  place : l.number ≡ length l.yielded;
  opened : AreOpenedTo g.N.RunName.run l.number l.streams.items l.seats.items l.feeders.items;
}
