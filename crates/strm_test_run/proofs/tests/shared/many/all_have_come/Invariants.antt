use Rattle.std.proofs.Common.{None}
use Rattle.strm_test_run.proofs.tests.shared.many.all_have_come.Given as goal

-- the run has this ring, and is of any calls and feeds
abbrev pub ghosts-have_come : goal.ghosts-have_come
ghosts-have_come g a = record { calls = λ number caller. None; feed = λ number. None; ring = λ number. a.ring.name }
