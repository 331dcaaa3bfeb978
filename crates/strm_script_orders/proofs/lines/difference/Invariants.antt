use Rattle.std.proofs.Common.{◌≡◌, [], length}
use Rattle.strm_script_orders.specs.Difference.{difference, lines_of}
use Rattle.strm_script_orders.proofs.lines.difference.Given as goal

-- the lines that are left decide
abbrev pub invariant-loop-line : goal.invariant-loop-line
invariant-loop-line l = difference l.section l.others l.lines ≡ difference [] (lines_of l.other) (lines_of l.text)

abbrev pub decreases-loop-line : goal.decreases-loop-line
decreases-loop-line l = length l.lines
