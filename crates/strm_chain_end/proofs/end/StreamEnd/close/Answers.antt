use Rattle.strm_chain_end.proofs.end.StreamEnd.close.Goals as goal

pub returns-clause-head_room : goal.returns-clause-head_room
returns-clause-head_room g c = rw (← c.self.view_is) c.empty_list.ensures.room
