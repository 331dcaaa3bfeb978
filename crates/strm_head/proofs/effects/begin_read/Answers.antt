use Rattle.std.proofs.Common.{refl}
use Rattle.strm_head_calls.specs.declared.request.Request.TheVariants as Requests
use Rattle.strm_head.proofs.NothingLemmas.{read_ok}
use Rattle.strm_head.proofs.BeginLemmas.{taken_begins}
use Rattle.strm_head.proofs.effects.begin_read.Goals as goal

pub returns : goal.returns
returns g c =
    rw c.taken_reply.ensures
    (taken_begins g.M.Kind.Kinds.means c.args.chain.now.image c.args.end (Requests.Read c.args.max) g.A.ReplyForm.says c.read.result c.read.new.chain.image c.read.ensures.reply c.read.ensures.image c.read.ensures.err (read_ok c.args.chain.now.image c.args.end c.args.max c.read.result c.read.ensures.nothing c.read.ensures.empty) refl c.requires.whole)
