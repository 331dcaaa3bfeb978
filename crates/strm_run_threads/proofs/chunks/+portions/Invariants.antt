use Rattle.std.proofs.Common.{◌+◌, ◌*◌, length}
use Rattle.strm_run_threads.proofs.chunks.+portions.Given as goal

abbrev pub decreases-chunk_and_rest-beyond : goal.decreases-chunk_and_rest-beyond
decreases-chunk_and_rest-beyond g l = 4 * length l.far.now + 1

abbrev pub decreases-each_in_chunks : goal.decreases-each_in_chunks
decreases-each_in_chunks g l = 4 * length l.all.now

abbrev pub decreases-chunk_and_rest : goal.decreases-chunk_and_rest
decreases-chunk_and_rest g l = 4 * length l.far.now + 2
