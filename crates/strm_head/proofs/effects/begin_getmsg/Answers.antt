use Rattle.std.proofs.Common.{refl}
use Rattle.strm_head_calls.specs.declared.request.Request.TheVariants as Requests
use Rattle.strm_chain_ends.specs.Image.{end_of}
use Rattle.strm_head.proofs.NothingLemmas.{get_ok}
use Rattle.strm_head.proofs.BeginLemmas.{taken_begins}
use Rattle.strm_head.proofs.effects.begin_getmsg.Goals as goal

pub returns : goal.returns
returns g c =
    rw c.taken_reply.ensures
    (taken_begins g.M.Kind.Kinds.means c.args.chain.now.image c.args.end (Requests.Getmsg c.args.maxctl c.args.maxdat c.args.flag) g.A.ReplyForm.says c.getmsg.result c.getmsg.new.chain.image c.getmsg.ensures.reply c.getmsg.ensures.image c.getmsg.ensures.err (get_ok (end_of c.args.chain.now.image c.args.end).head c.getmsg.result c.getmsg.ensures.empty) refl c.requires.whole)
