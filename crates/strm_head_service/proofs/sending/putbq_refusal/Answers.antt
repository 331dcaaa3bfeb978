use Rattle.std.proofs.Common.{sym, ◌∙◌}
use Rattle.strm_head_service.proofs.SendingLemmas.{putbq_shares}
use Rattle.strm_head_service.proofs.sending.putbq_refusal.Goals as goal

pub returns-in-Some : goal.returns-in-Some
returns-in-Some g c =
    sym (putbq_shares c.args.chain.now.image c.args.end c.args.name.now.items c.args.side c.args.m.now c.in-Some.refusal (sym c.service_refusal.ensures ∙ c.in-Some.is))
