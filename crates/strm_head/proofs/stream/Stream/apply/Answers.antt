use Rattle.strm_head.proofs.stream.Stream.apply.Goals as goal

pub returns-clause-memory : goal.returns-clause-memory
returns-clause-memory g c none = rw c.of-outcome.ensures.answer (c.call-answered.ensures.memory none)

pub returns-clause-still : goal.returns-clause-still
returns-clause-still g c = rw c.of-outcome.ensures.answer c.call-answered.ensures.still
