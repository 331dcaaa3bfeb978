use Rattle.std.proofs.Common.{refl}
use Rattle.strm_head_calls.specs.declared.request.Request.TheVariants as Requests
use Rattle.strm_head.proofs.BeginLemmas.{taken_begins}
use Rattle.strm_head.proofs.effects.begin_strget.Goals as goal

pub returns : goal.returns
returns g c =
    rw c.taken_reply.ensures
    (taken_begins g.M.Kind.Kinds.means c.args.chain.now.image c.args.end (Requests.Strget c.args.drops) g.A.ReplyForm.says c.strget.result c.strget.new.chain.image c.strget.ensures.reply c.strget.ensures.image c.strget.ensures.err c.strget.ensures.nothing refl c.requires.ready.whole)
