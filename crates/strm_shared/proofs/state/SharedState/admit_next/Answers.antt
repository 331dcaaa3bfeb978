use Rattle.strm_shared.proofs.ArrivalLemmas.{held_is, held_locked, landed_locked}
use Rattle.strm_shared.proofs.state.SharedState.admit_next.Goals as goal

pub invariant_of-self-in-Entered : goal.invariant_of-self-in-Entered
invariant_of-self-in-Entered g c =
    landed_locked g.M.Kind.Kinds.means (λ number. g.N.StreamRunName.calls number) c.self.inside.number c.self.inside.log c.arrive.new.self c.in-Some.m c.self.inside.turns c.self.inside.inlet c.take.new.self c.in-Entered.ensures.landed c.in-Some.ensures.next c.self.invariant

pub invariant_of-self-in-Full : goal.invariant_of-self-in-Full
invariant_of-self-in-Full g c =
    held_locked (λ number. g.N.StreamRunName.calls number) c.self.inside.number c.self.inside.log c.arrive.new.self c.in-Some.m c.in-Full.m c.self.inside.turns c.self.inside.inlet c.take.new.self c.hold.new.self c.in-Full.ensures.landed.1 c.in-Full.ensures.landed.2 c.in-Some.ensures.next c.hold.ensures c.self.invariant

pub invariant_of-self-in-NoMem : goal.invariant_of-self-in-NoMem
invariant_of-self-in-NoMem g c =
    held_locked (λ number. g.N.StreamRunName.calls number) c.self.inside.number c.self.inside.log c.arrive.new.self c.in-Some.m c.in-NoMem.m c.self.inside.turns c.self.inside.inlet c.take.new.self c.hold-in-NoMem.new.self c.in-NoMem.ensures.landed.1 c.in-NoMem.ensures.landed.2 c.in-Some.ensures.next c.hold-in-NoMem.ensures c.self.invariant

-- a message that cannot come in is held back
pub returns-in-Full-clause-log : goal.returns-in-Full-clause-log
returns-in-Full-clause-log g c =
    let full = c.in-Full.ensures.landed in
    let held = held_is c.in-Some.m c.in-Full.m c.self.inside.inlet c.take.new.self c.hold.new.self full.1 c.in-Some.ensures.next c.hold.ensures in
    rw (← c.self.view_is)
    (full.2, rw (held, full.2.image) full.0)

-- and so is one for which memory was wanting
pub returns-in-NoMem-clause-log : goal.returns-in-NoMem-clause-log
returns-in-NoMem-clause-log g c =
    let wants = c.in-NoMem.ensures.landed in
    let held = held_is c.in-Some.m c.in-NoMem.m c.self.inside.inlet c.take.new.self c.hold-in-NoMem.new.self wants.1 c.in-Some.ensures.next c.hold-in-NoMem.ensures in
    rw (← c.self.view_is)
    (wants.2, (c.in-Some.m, held, rw wants.2.image wants.0))
