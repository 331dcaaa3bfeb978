use Rattle.std.proofs.Common.{◌≡◌, drop}
use Rattle.strm_chain_ends.specs.Image.{end_of, with_head, KeepsHeadRoom}
use Rattle.strm_head_read.proofs.reading.take_away.Given as goal

abbrev pub invariant-loop-i : goal.invariant-loop-i
invariant-loop-i g l = record {
  image : l.chain.image ≡ with_head l.initial.chain.image l.end (drop l._i (end_of l.initial.chain.image l.end).head);
  room : KeepsHeadRoom l.initial.chain.rooms l.chain.rooms;
}
