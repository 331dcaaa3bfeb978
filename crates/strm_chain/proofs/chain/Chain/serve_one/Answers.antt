use Rattle.strm_chain.proofs.chain.Chain.serve_one.Goals as goal

pub returns-clause-moves : goal.returns-clause-moves
returns-clause-moves g c =
    rw (c.put_back_hops.ensures, ← c.take_hops-hops.ensures.same) c.in_ok-serve.ensures.moves
