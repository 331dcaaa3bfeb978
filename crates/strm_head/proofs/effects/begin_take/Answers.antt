use Rattle.std.proofs.Common.{refl}
use Rattle.strm_head_calls.specs.declared.request.Request.TheVariants as Requests
use Rattle.strm_chain_ends.specs.Image.{end_of}
use Rattle.strm_head.proofs.NothingLemmas.{get_ok}
use Rattle.strm_head.proofs.BeginLemmas.{taken_begins}
use Rattle.strm_head.proofs.KeptLemmas.{take_whole}
use Rattle.strm_head.proofs.effects.begin_take.Goals as goal

pub returns : goal.returns
returns g c =
    rw c.taken_reply.ensures
    (taken_begins g.M.Kind.Kinds.means c.args.chain.now.image c.args.end Requests.Take g.A.ReplyForm.says c.take.result c.take.new.chain.image c.take.ensures.reply c.take.ensures.image c.take.ensures.err (get_ok (end_of c.args.chain.now.image c.args.end).drv c.take.result c.take.ensures.empty) refl (take_whole c.args.chain.now.image c.args.end c.requires))
