use Rattle.strm_chain.proofs.chain.Chain.move_place.Goals as goal

pub returns-in-Wr-clause-ok : goal.returns-in-Wr-clause-ok
returns-in-Wr-clause-ok g c = rw (c.in-Wr.is, ← c.from.ensures) c.move_module.ensures.ok

pub returns-in-Wr-clause-moves : goal.returns-in-Wr-clause-moves
returns-in-Wr-clause-moves g c = rw (c.in-Wr.is, ← c.from.ensures) c.move_module.ensures.moves

pub returns-in-Wr-clause-same : goal.returns-in-Wr-clause-same
returns-in-Wr-clause-same g c = c.move_module.ensures.same

pub returns-in-Wr-clause-given : goal.returns-in-Wr-clause-given
returns-in-Wr-clause-given g c = c.move_module.ensures.given

pub returns-in-Drv-clause-ok : goal.returns-in-Drv-clause-ok
returns-in-Drv-clause-ok g c = rw c.in-Drv.is c.move_driver.ensures.ok

pub returns-in-Drv-clause-moves : goal.returns-in-Drv-clause-moves
returns-in-Drv-clause-moves g c = rw c.in-Drv.is c.move_driver.ensures.moves

pub returns-in-Drv-clause-same : goal.returns-in-Drv-clause-same
returns-in-Drv-clause-same g c = c.move_driver.ensures.same

pub returns-in-Drv-clause-given : goal.returns-in-Drv-clause-given
returns-in-Drv-clause-given g c = c.move_driver.ensures.given

pub returns-in-Rd-clause-ok : goal.returns-in-Rd-clause-ok
returns-in-Rd-clause-ok g c = rw (c.in-Rd.is, ← c.from-in-Rd.ensures) c.move_module-in-Rd.ensures.ok

pub returns-in-Rd-clause-moves : goal.returns-in-Rd-clause-moves
returns-in-Rd-clause-moves g c = rw (c.in-Rd.is, ← c.from-in-Rd.ensures) c.move_module-in-Rd.ensures.moves

pub returns-in-Rd-clause-same : goal.returns-in-Rd-clause-same
returns-in-Rd-clause-same g c = c.move_module-in-Rd.ensures.same

pub returns-in-Rd-clause-given : goal.returns-in-Rd-clause-given
returns-in-Rd-clause-given g c = c.move_module-in-Rd.ensures.given
