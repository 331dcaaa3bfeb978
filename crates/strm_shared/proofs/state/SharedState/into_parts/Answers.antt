use Rattle.strm_shared.proofs.state.SharedState.into_parts.Goals as goal

pub returns-clause-in_turn : goal.returns-clause-in_turn
returns-clause-in_turn g c = rw (← c.self.view_is) c.self.invariant.in_turn

pub returns-clause-came_in : goal.returns-clause-came_in
returns-clause-came_in g c = rw (← c.self.view_is) c.self.invariant.came_in

pub returns-clause-of : goal.returns-clause-of
returns-clause-of g c = rw (← c.self.view_is) c.self.invariant.of

pub returns-clause-fed : goal.returns-clause-fed
returns-clause-fed g c = rw (← c.self.view_is) c.self.invariant.fed
