use Rattle.std.proofs.Common.{None}
use Rattle.strm_bench.proofs.feed.measure.Given as goal

-- the run has this ring, and is of any calls and feeds
abbrev pub ghosts-fed : goal.ghosts-fed
ghosts-fed g a = record { calls = λ number caller. None; feed = λ number. None; ring = λ number. a.ring.name }
