use Rattle.std.proofs.Common.{sym, ◌∙◌}
use Rattle.strm_head.proofs.CallLemmas.{refused_memory}
use Rattle.strm_head.proofs.call.answer.Goals as goal

pub returns-in-Some-clause-memory : goal.returns-in-Some-clause-memory
returns-in-Some-clause-memory g c none =
    rw c.refused.ensures.answer
    (refused_memory g.M.Kind.Kinds.means c.args.chain.now.image c.args.end c.args.request c.in-Some.refusal (sym c.first_refusal.ensures ∙ c.in-Some.is))
