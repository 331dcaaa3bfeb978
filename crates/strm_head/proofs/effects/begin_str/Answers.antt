use Rattle.std.proofs.Common.{refl}
use Rattle.strm_head_calls.specs.declared.request.Request.TheVariants as Requests
use Rattle.strm_head.proofs.BeginLemmas.{done_begins}
use Rattle.strm_head.proofs.effects.begin_str.Goals as goal

pub returns : goal.returns
returns g c =
    rw c.reply_of_sending.ensures
    (done_begins g.M.Kind.Kinds.means c.args.chain.now.image c.args.end (Requests.Str c.args.cmd c.args.dat) c.send_ioctl.result (g.A.ReplyForm.says c.no_answer.result) c.send_ioctl.new.chain.image c.no_answer.ensures c.send_ioctl.ensures.image c.send_ioctl.ensures.failed refl refl refl refl c.requires.ready.whole)
