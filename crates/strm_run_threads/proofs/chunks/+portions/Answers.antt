use Rattle.std.proofs.Common.{sym, subst, ◌++◌}
use Rattle.strm_run_threads.proofs.PortionsLemmas.{both_changed}
use Rattle.strm_run_threads.specs.Chunks.{AreChanged}
use Rattle.strm_run_threads.proofs.chunks.+portions.Goals as goal

-- all are the near and the far
pub each_in_chunks-returns : goal.each_in_chunks-returns
each_in_chunks-returns g t c =
    let cut = c.split_at_mut-near in
    subst (λ all. AreChanged g.F.Fn c.args.work.now all (c.chunk_and_rest.new.near ++ c.chunk_and_rest.new.far)) (sym cut.ensures.value)
    (both_changed g.F.Fn c.args.work.now cut.result.0.now cut.result.1.now c.chunk_and_rest.new.near c.chunk_and_rest.new.far c.chunk_and_rest.ensures.near c.chunk_and_rest.ensures.far)
