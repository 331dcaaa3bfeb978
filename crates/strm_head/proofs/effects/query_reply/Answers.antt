use Rattle.std.proofs.Common.{◌≡◌, true, sym}
use Rattle.strm_head_calls.specs.Service.{is_question}
use Rattle.strm_head_service.specs.Served.{served_at}
use Rattle.strm_head_service.proofs.ServeLemmas.{service_leaves}
use Rattle.strm_head.proofs.effects.query_reply.Goals as goal

pub returns-in-Service-clause-image : goal.returns-in-Service-clause-image
returns-in-Service-clause-image g c =
    let image = c.args.chain.now.image in
    let asks : is_question c.in-Service.call ≡ true = rw c.in-Service.is at c.requires.tells in
    rw c.in-Service.is
    (sym (service_leaves g.M.Kind.Kinds.means image c.args.end (served_at image c.args.end c.in-Service.name.items) c.in-Service.side c.in-Service.call asks))
