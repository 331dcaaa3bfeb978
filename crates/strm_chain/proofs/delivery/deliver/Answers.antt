use Rattle.strm_chain.proofs.BreakLemmas.{delivered_or_fails}
use Rattle.strm_chain.proofs.delivery.deliver.Goals as goal

pub returns-clause-failed : goal.returns-clause-failed
returns-clause-failed g c =
    delivered_or_fails g.M.Kind.Kinds.means c.deliver.result c.args.chain.now.image c.deliver.new.self.image c.args.spot c.args.m c.requires.whole c.deliver.ensures.refused
