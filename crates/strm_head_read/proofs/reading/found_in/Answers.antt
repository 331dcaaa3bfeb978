use Rattle.strm_head_read.proofs.ReadLemmas.{first_bytes, first_stays}
use Rattle.strm_head_read.proofs.reading.found_in.Goals as goal

pub returns-in-Some-clause-bytes : goal.returns-in-Some-clause-bytes
returns-in-Some-clause-bytes c =
    first_bytes c.args.mode c.args.prot c.args.max c.args.queue.now.messages c.in-Some.first.now c.requires c.in-Some.ensures (λ found. found.bytes) c.found_in_first.result c.found_in_first.ensures.bytes

pub returns-in-Some-clause-stays : goal.returns-in-Some-clause-stays
returns-in-Some-clause-stays c =
    first_stays c.args.mode c.args.prot c.args.max c.args.queue.now.messages c.in-Some.first.now c.requires c.in-Some.ensures (λ found. found.gone) (λ found. found.rest) c.found_in_first.result c.found_in_first.ensures.gone c.found_in_first.ensures.rest
