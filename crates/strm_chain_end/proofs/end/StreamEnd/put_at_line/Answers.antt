use Rattle.strm_chain_end.proofs.end.StreamEnd.put_at_line.Goals as goal

pub returns-in-MFlush-clause-state : goal.returns-in-MFlush-clause-state
returns-in-MFlush-clause-state g c = rw (← c.deref.ensures, ← c.behind-m.view_is, c.in-MFlush.is) c.flush_driver.ensures.state

pub returns-in-MFlush-clause-sends : goal.returns-in-MFlush-clause-sends
returns-in-MFlush-clause-sends g c = rw (← c.deref.ensures, ← c.behind-m.view_is, c.in-MFlush.is) c.flush_back.ensures

pub returns-in-MFlush-clause-same : goal.returns-in-MFlush-clause-same
returns-in-MFlush-clause-same g c = c.flush_driver.ensures.same
