use Rattle.std.proofs.Common.{◌≡◌, ℕ, ◌+◌, ◌≤◌, List, ◌++◌, length, map}
use Rattle.std.specs.Str.Lines.{lines}
use Rattle.strm_script_parse.specs.Last.{IsKnown}
use Rattle.strm_script_parse.specs.Plan.{Partial, call_view, streams_of}
use Rattle.strm_script_parse.specs.Reading.{lines_onto}
use Rattle.strm_script_parse.specs.Section.{HasRoom, with_calls}
use Rattle.strm_script_parse.specs.Sound.{AreCallsThere}
use Rattle.strm_script_parse.proofs.section.calls_in.Given as goal

-- the lines so far say these calls, behind which those of the others go
abbrev pub invariant-loop-rest : goal.invariant-loop-rest
invariant-loop-rest g l = record {
  onto : (n : ℕ) (d : Partial g.row.M-Kind.Denot) (others : List (List ℕ)) → d.streams ≡ streams_of l.streams → HasRoom d.place (length (map call_view l.calls)) → lines_onto g.M.Kind.ReadKind.words n d (lines l.text ++ others) ≡ lines_onto g.M.Kind.ReadKind.words (n + l.lines) (with_calls d (map call_view l.calls)) (lines l.rest ++ others);
  there : AreCallsThere (streams_of l.streams) (map call_view l.calls);
  some : length l.calls ≤ l.lines;
  few : l.lines + length l.rest ≤ length l.text;
  known : IsKnown (streams_of l.streams) l.last;
}

abbrev pub decreases-loop-rest : goal.decreases-loop-rest
decreases-loop-rest g l = length l.rest
