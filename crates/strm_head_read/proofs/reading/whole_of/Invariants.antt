use Rattle.strm_head_read.specs.Read.{reached}
use Rattle.strm_head_read.proofs.ReadLemmas.{IsGiven}
use Rattle.strm_head_read.proofs.reading.whole_of.Given as goal

abbrev pub invariant-loop-i : goal.invariant-loop-i
invariant-loop-i l = IsGiven l.prot l.max (reached l.mode l.prot l.queue.messages) l.i l.bytes.items
