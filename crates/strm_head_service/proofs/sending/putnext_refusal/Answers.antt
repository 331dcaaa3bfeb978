use Rattle.std.proofs.Common.{sym, ◌∙◌, arith, rules}
use Rattle.strm_head_service.proofs.SendingLemmas.{putnext_shares}
use Rattle.strm_head_service.proofs.sending.putnext_refusal.Goals as goal

pub returns-in-Some : goal.returns-in-Some
returns-in-Some g c =
    let refused = sym c.service_refusal.ensures ∙ c.in-Some.is in
    sym (putnext_shares c.args.chain.now.image c.args.end c.args.name.now.items c.args.side c.args.m.now c.in-Some.refusal (rw (← c.m.view_is) refused))
