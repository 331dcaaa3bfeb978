use Rattle.std.proofs.Common.{refl}
use Rattle.strm_head_calls.specs.declared.answer.Reply.TheVariants as Replies
use Rattle.strm_head_calls.specs.declared.request.Request.TheVariants as Requests
use Rattle.strm_head.proofs.NothingLemmas.{putpmsg_ok}
use Rattle.strm_head.proofs.BeginLemmas.{bare_reply, sent_begins}
use Rattle.strm_head.proofs.effects.begin_putpmsg.Goals as goal

pub returns : goal.returns
returns g c =
    let parts = c.into_parts.result in
    let ok = putpmsg_ok parts.ctl parts.dat c.args.band c.args.flag c.putpmsg.result c.putpmsg.ensures.nothing in
    rw (c.sent_reply.ensures, ← c.into_parts.ensures)
    (sent_begins g.M.Kind.Kinds.means c.args.chain.now.image c.args.end (Requests.Putpmsg c.args.band c.args.flag c.into_parts.result) c.putpmsg.result c.putpmsg.new.chain.image c.putpmsg.ensures.reply c.putpmsg.ensures.image c.putpmsg.ensures.refused ok ok refl refl c.requires.whole)

pub sent_reply-requires : goal.sent_reply-requires
sent_reply-requires g c = bare_reply c.putpmsg.result Replies.Putpmsg c.putpmsg.ensures.reply refl
