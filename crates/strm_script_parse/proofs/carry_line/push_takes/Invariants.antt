use Rattle.std.proofs.Common.{◌≡◌, ◌++◌, replicate}
use Rattle.strm_script_parse.specs.Carries.{take_call}
use Rattle.strm_script_parse.proofs.carry_line.push_takes.Given as goal

-- so many takes so far
abbrev pub invariant-loop : goal.invariant-loop
invariant-loop g l = l.calls ≡ l.fn.calls ++ replicate l.counter (take_call l.wire)
