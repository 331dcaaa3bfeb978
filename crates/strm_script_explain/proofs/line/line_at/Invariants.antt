use Rattle.std.proofs.Common.{◌≡◌, ◌≤◌, drop, length}
use Rattle.std.specs.Str.Lines.{lines}
use Rattle.strm_script_explain.proofs.line.line_at.Given as goal

-- the lines so far are those in front of the rest
abbrev pub invariant-loop-rest : goal.invariant-loop-rest
invariant-loop-rest l = record {
  few : l.many ≤ l.number;
  lines_are : lines l.rest ≡ drop l.many (lines l.text);
}

abbrev pub decreases-loop-rest : goal.decreases-loop-rest
decreases-loop-rest l = length l.rest
