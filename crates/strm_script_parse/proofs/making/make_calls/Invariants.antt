use Rattle.std.proofs.Common.{◌≡◌}
use Rattle.strm_script_parse.proofs.making.make_calls.Given as goal

-- the calls are those that were declared
abbrev pub invariant-loop-line : goal.invariant-loop-line
invariant-loop-line g l = l.lines ≡ l.fn.lines
