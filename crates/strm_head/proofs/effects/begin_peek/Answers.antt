use Rattle.std.proofs.Common.{refl}
use Rattle.strm_head_calls.specs.declared.request.Request.TheVariants as Requests
use Rattle.strm_head_calls.specs.ReplyForm.{said}
use Rattle.strm_head.proofs.NothingLemmas.{peek_ok}
use Rattle.strm_head.proofs.BeginLemmas.{seen_begins}
use Rattle.strm_head.proofs.effects.begin_peek.Goals as goal

pub returns : goal.returns
returns g c =
    rw c.taken_reply.ensures
    (seen_begins g.M.Kind.Kinds.means c.args.chain.now.image c.args.end (Requests.Peek c.args.maxctl c.args.maxdat c.args.flag) c.peek.result (said g.A.ReplyForm.says c.peeked_reply.result) c.peeked_reply.ensures.shown c.peek.ensures.reply refl (peek_ok c.args.chain.now.image c.args.end c.args.maxctl c.args.maxdat c.args.flag g.A.ReplyForm.says c.peek.result c.peeked_reply.result c.peek.ensures.unseen c.peek.ensures.reply c.peeked_reply.ensures.bare) refl c.requires.whole)
