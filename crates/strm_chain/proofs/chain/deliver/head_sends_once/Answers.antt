use Rattle.strm_chain.proofs.FlushLemmas.{head_sends_once}
use Rattle.strm_chain.proofs.chain.deliver.head_sends_once.Goals as goal

pub returns : goal.returns
returns c = head_sends_once
