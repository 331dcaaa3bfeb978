use Rattle.std.proofs.Common.{refl}
use Rattle.strm_head_calls.specs.declared.request.Request.TheVariants as Requests
use Rattle.strm_chain_ends.specs.Image.{end_of}
use Rattle.strm_head.proofs.NothingLemmas.{get_ok}
use Rattle.strm_head.proofs.BeginLemmas.{taken_begins}
use Rattle.strm_head.proofs.effects.begin_getpmsg.Goals as goal

pub returns : goal.returns
returns g c =
    rw c.taken_reply.ensures
    (taken_begins g.M.Kind.Kinds.means c.args.chain.now.image c.args.end (Requests.Getpmsg c.args.maxctl c.args.maxdat c.args.band c.args.flag) g.A.ReplyForm.says c.getpmsg.result c.getpmsg.new.chain.image c.getpmsg.ensures.reply c.getpmsg.ensures.image c.getpmsg.ensures.err (get_ok (end_of c.args.chain.now.image c.args.end).head c.getpmsg.result c.getpmsg.ensures.empty) refl c.requires.whole)
