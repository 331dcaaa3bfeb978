use Rattle.std.proofs.Common.{◌≡◌, ℕ, ◌+◌, ◌≤◌, List, ◌++◌, length}
use Rattle.std.specs.Str.Lines.{lines}
use Rattle.strm_script_parse.specs.Draft.{IsAt}
use Rattle.strm_script_parse.specs.Plan.{draft_view}
use Rattle.strm_script_parse.specs.Reading.{lines_onto}
use Rattle.strm_script_parse.specs.Section.{IsMore}
use Rattle.strm_script_parse.proofs.parsing.read_lines.Given as goal

-- the lines so far made the draft, onto which the others go
abbrev pub invariant-loop-rest : goal.invariant-loop-rest
invariant-loop-rest g l = record {
  onto : (others : List (List ℕ)) → lines_onto g.M.Kind.ReadKind.words l.fn.before (draft_view l.fn.draft) (lines l.text ++ others) ≡ lines_onto g.M.Kind.ReadKind.words l.many (draft_view l.draft) (lines l.rest ++ others);
  few : l.many + length l.rest ≤ l.fn.before + length l.text;
  stands : IsAt l.many (draft_view l.draft);
  streams : IsMore (draft_view l.fn.draft).streams (draft_view l.draft).streams;
}

abbrev pub decreases-loop-rest : goal.decreases-loop-rest
decreases-loop-rest g l = length l.rest
