use Rattle.strm_chain_end.proofs.end.StreamEnd.put_at_driver.Goals as goal

pub returns-in-Line-clause-state : goal.returns-in-Line-clause-state
returns-in-Line-clause-state g c = rw c.in-Line.is c.put_at_line.ensures.state

pub returns-in-Line-clause-sends : goal.returns-in-Line-clause-sends
returns-in-Line-clause-sends g c = rw c.in-Line.is c.put_at_line.ensures.sends

pub returns-in-Line-clause-err : goal.returns-in-Line-clause-err
returns-in-Line-clause-err g c = tt

pub returns-in-Line-clause-same : goal.returns-in-Line-clause-same
returns-in-Line-clause-same g c = c.put_at_line.ensures.same

pub returns-in-Echo-clause-state : goal.returns-in-Echo-clause-state
returns-in-Echo-clause-state g c = rw c.in-Echo.is c.put_at_echo.ensures.state

pub returns-in-Echo-clause-sends : goal.returns-in-Echo-clause-sends
returns-in-Echo-clause-sends g c = rw c.in-Echo.is c.put_at_echo.ensures.sends

pub returns-in-Echo-clause-err : goal.returns-in-Echo-clause-err
returns-in-Echo-clause-err g c = c.put_at_echo.ensures.err

pub returns-in-Echo-clause-same : goal.returns-in-Echo-clause-same
returns-in-Echo-clause-same g c = c.put_at_echo.ensures.same

pub returns-in-Loop-clause-state : goal.returns-in-Loop-clause-state
returns-in-Loop-clause-state g c = rw c.in-Loop.is c.put_at_loop.ensures.state

pub returns-in-Loop-clause-sends : goal.returns-in-Loop-clause-sends
returns-in-Loop-clause-sends g c = rw c.in-Loop.is c.put_at_loop.ensures.sends

pub returns-in-Loop-clause-err : goal.returns-in-Loop-clause-err
returns-in-Loop-clause-err g c = c.put_at_loop.ensures.err

pub returns-in-Loop-clause-same : goal.returns-in-Loop-clause-same
returns-in-Loop-clause-same g c = c.put_at_loop.ensures.same

pub returns-in-Wire-clause-state : goal.returns-in-Wire-clause-state
returns-in-Wire-clause-state g c = rw c.in-Wire.is c.put_at_wire.ensures.state

pub returns-in-Wire-clause-sends : goal.returns-in-Wire-clause-sends
returns-in-Wire-clause-sends g c = rw c.in-Wire.is c.put_at_wire.ensures.sends

pub returns-in-Wire-clause-err : goal.returns-in-Wire-clause-err
returns-in-Wire-clause-err g c = c.put_at_wire.ensures.err

pub returns-in-Wire-clause-same : goal.returns-in-Wire-clause-same
returns-in-Wire-clause-same g c = c.put_at_wire.ensures.same
