use Rattle.std.proofs.Common.{ap}
use Rattle.strm_chain_end.specs.Change.{awaiting_none}
use Rattle.strm_chain_ends.specs.Image.{end_of}
use Rattle.strm_chain.specs.Enabled.{ChainValue}
use Rattle.strm_head.proofs.LookLemmas.{bounded_after}
use Rattle.strm_head.proofs.call.finish_ioctl.Goals as goal

pub returns-clause-bound : goal.returns-clause-bound
returns-clause-bound g c =
    let mid = c.settle.new.self.image in
    let after = ap (λ (v : ChainValue _). v.image) c.end_ioctl.ensures.image in
    λ kinds.
    bounded_after c.args.chain.now.image mid c.end_ioctl.new.self.image c.args.end (awaiting_none (end_of mid c.args.end).state) c.done.result.answer (g.A.ReplyForm.says c.new.result) c.in-Ok.settled.moves c.done.result.moves c.in-Ok.settled.looks c.done.result.looks c.done.ensures.answer c.done.ensures.moves c.done.ensures.looks after (c.in-Ok.ensures.most kinds)
