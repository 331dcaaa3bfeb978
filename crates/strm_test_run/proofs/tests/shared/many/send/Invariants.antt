use Rattle.std.proofs.Common.{◌≡◌, true}
use Rattle.strm_msg.specs.Kind.{is_from_line}
use Rattle.strm_test_run.proofs.tests.shared.many.send.Given as goal

-- what is offered comes from a line
abbrev pub invariant-loop : goal.invariant-loop
invariant-loop g l = is_from_line l.offered.kind ≡ true
