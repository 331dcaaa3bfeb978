use Rattle.strm_run_callers.proofs.CarryLemmas.{offer_accepted, offer_back}
use Rattle.strm_run_callers.proofs.carrier.Carrier.offer.Goals as goal

pub returns-then-not-accepts-clause-offered : goal.returns-then-not-accepts-clause-offered
returns-then-not-accepts-clause-offered g c =
    offer_back c.args.self.now _ c.self.inside.link c.accepts.new.feeder.feed c.args.m c.self.view_is (c.accepts.ensures.none c.if-not-accepts.true)

pub returns-else-not-accepts-clause-offered : goal.returns-else-not-accepts-clause-offered
returns-else-not-accepts-clause-offered g c =
    offer_accepted c.args.self.now _ c.self.inside.link c.accepts.new.feeder.feed c.args.m c.self.view_is (c.accepts.ensures.accepted c.if-not-accepts.false)
