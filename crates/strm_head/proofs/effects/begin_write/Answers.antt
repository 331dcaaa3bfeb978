use Rattle.std.proofs.Common.{refl}
use Rattle.strm_head_calls.specs.declared.request.Request.TheVariants as Requests
use Rattle.strm_head.proofs.BeginLemmas.{bare_reply, sent_begins}
use Rattle.strm_head.proofs.effects.begin_write.Goals as goal

pub returns : goal.returns
returns g c =
    rw c.sent_reply.ensures
    (sent_begins g.M.Kind.Kinds.means c.args.chain.now.image c.args.end (Requests.Write c.args.dat) c.write.result c.write.new.chain.image c.write.ensures.reply c.write.ensures.image c.write.ensures.refused (λ none. absurd cc) (λ none. absurd cc) refl refl c.requires.whole)

pub sent_reply-requires : goal.sent_reply-requires
sent_reply-requires g c = bare_reply c.write.result _ c.write.ensures.reply refl
