use Rattle.std.proofs.Common.{refl}
use Rattle.strm_head_calls.specs.declared.request.Request.TheVariants as Requests
use Rattle.strm_head.proofs.BeginLemmas.{done_begins}
use Rattle.strm_head.proofs.effects.begin_flush.Goals as goal

pub returns : goal.returns
returns g c =
    rw c.reply_of_sending.ensures
    (done_begins g.M.Kind.Kinds.means c.args.chain.now.image c.args.end (Requests.Flush c.args.r c.args.w) c.flush.result (g.A.ReplyForm.says c.plain.result) c.flush.new.chain.image c.plain.ensures c.flush.ensures.image c.flush.ensures.failed refl refl refl refl c.requires.whole)
