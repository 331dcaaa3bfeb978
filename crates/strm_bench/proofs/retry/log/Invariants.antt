use Rattle.std.proofs.Common.{None}
use Rattle.strm_bench.proofs.retry.log.Given as goal

-- the run has this ring, and is of any calls and feeds
abbrev pub ghosts-done : goal.ghosts-done
ghosts-done g a = record { calls = λ number caller. None; feed = λ number. None; ring = λ number. a.ring.name }
