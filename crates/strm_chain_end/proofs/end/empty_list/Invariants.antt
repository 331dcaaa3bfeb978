use Rattle.std.proofs.Common.{◌≡◌, length}
use Rattle.strm_chain_end.specs.End.{KeepsRoom}
use Rattle.strm_chain_end.proofs.end.empty_list.Given as goal

abbrev pub invariant-loop : goal.invariant-loop
invariant-loop l = record {
  marks : l.queue.marks ≡ l.initial.queue.marks;
  room : KeepsRoom l.initial.queue.room l.queue.room;
}

abbrev pub decreases-loop : goal.decreases-loop
decreases-loop l = length l.queue.messages
