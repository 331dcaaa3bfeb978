use Rattle.std.proofs.Common.{None}
use Rattle.strm_test_run.proofs.tests.shared.lines.fault.Given as goal

-- the run has this ring, and is of any calls and feeds
abbrev pub ghosts-fault_of : goal.ghosts-fault_of
ghosts-fault_of g a = record { calls = λ number caller. None; feed = λ number. None; ring = λ number. a.ring.name }
