use Rattle.std.proofs.Common.{refl}
use Rattle.strm_chain.proofs.enabling.Enabling.mark_wanted.Goals as goal

pub returns-in-Some-clause-run : goal.returns-in-Some-clause-run
returns-in-Some-clause-run g c = rw (← c.self.view_is) refl

pub returns-in-Some-clause-ordinary : goal.returns-in-Some-clause-ordinary
returns-in-Some-clause-ordinary g c = record { on_a = c.count.ensures.ordinary; on_b = c.count-2.ensures.ordinary }

pub returns-in_default-clause-run : goal.returns-in_default-clause-run
returns-in_default-clause-run g c = refl

pub returns-in_default-clause-ordinary : goal.returns-in_default-clause-ordinary
returns-in_default-clause-ordinary g c = record { on_a = c.count.ensures.ordinary; on_b = c.count-2.ensures.ordinary }
