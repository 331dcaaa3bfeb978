use Rattle.std.proofs.Common.{refl}
use Rattle.strm_head_calls.specs.declared.answer.Reply.TheVariants as Replies
use Rattle.strm_head_calls.specs.declared.request.Request.TheVariants as Requests
use Rattle.strm_head.proofs.NothingLemmas.{putmsg_ok}
use Rattle.strm_head.proofs.BeginLemmas.{bare_reply, sent_begins}
use Rattle.strm_head.proofs.effects.begin_putmsg.Goals as goal

pub returns : goal.returns
returns g c =
    let parts = c.into_parts.result in
    let ok = putmsg_ok parts.ctl parts.dat c.args.flag c.putmsg.result c.putmsg.ensures.nothing in
    rw (c.sent_reply.ensures, ← c.into_parts.ensures)
    (sent_begins g.M.Kind.Kinds.means c.args.chain.now.image c.args.end (Requests.Putmsg c.args.flag c.into_parts.result) c.putmsg.result c.putmsg.new.chain.image c.putmsg.ensures.reply c.putmsg.ensures.image c.putmsg.ensures.refused ok ok refl refl c.requires.whole)

pub sent_reply-requires : goal.sent_reply-requires
sent_reply-requires g c = bare_reply c.putmsg.result Replies.Putmsg c.putmsg.ensures.reply refl
