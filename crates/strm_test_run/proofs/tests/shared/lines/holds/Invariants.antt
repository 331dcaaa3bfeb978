use Rattle.std.proofs.Common.{None}
use Rattle.strm_test_run.proofs.tests.shared.lines.holds.Given as goal

-- the run has this ring, and is of any calls and feeds
abbrev pub ghosts-plays : goal.ghosts-plays
ghosts-plays g a = record { calls = λ number caller. None; feed = λ number. None; ring = λ number. a.ring.name }
