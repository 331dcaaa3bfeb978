use Rattle.std.proofs.Common.{◌≡◌, arith}
use Rattle.strm_chain.proofs.HopLemmas.{carries_to_head, carries_to_driver}
use Rattle.strm_chain.proofs.chain.Chain.hop.Goals as goal

pub returns-in-Rd-clause-image : goal.returns-in-Rd-clause-image
returns-in-Rd-clause-image g c =
    let none : c.args.hop.ahead ≡ 0 = omega arith in
    rw (← carries_to_head g.M.Kind.Kinds.means c.args.self.now.image c.args.hop c.in-Rd.is none, ← c.reserve.ensures.items) c.to_head.ensures.image

pub returns-in-Wr-clause-image : goal.returns-in-Wr-clause-image
returns-in-Wr-clause-image g c =
    let none : c.args.hop.ahead ≡ 0 = omega arith in
    rw (← carries_to_driver g.M.Kind.Kinds.means c.args.self.now.image c.args.hop c.in-Wr.is none, ← c.reserve.ensures.items) c.to_driver.ensures.image

pub returns-in-Rd-clause-err : goal.returns-in-Rd-clause-err
returns-in-Rd-clause-err g c = c.to_head.ensures.err

pub returns-in-Rd-clause-same : goal.returns-in-Rd-clause-same
returns-in-Rd-clause-same g c = c.to_head.ensures.same

pub returns-in-Rd-clause-given : goal.returns-in-Rd-clause-given
returns-in-Rd-clause-given g c = c.to_head.ensures.given

pub returns-in-Wr-clause-err : goal.returns-in-Wr-clause-err
returns-in-Wr-clause-err g c = c.to_driver.ensures.err

pub returns-in-Wr-clause-same : goal.returns-in-Wr-clause-same
returns-in-Wr-clause-same g c = c.to_driver.ensures.same

pub returns-in-Wr-clause-given : goal.returns-in-Wr-clause-given
returns-in-Wr-clause-given g c = c.to_driver.ensures.given
