use Rattle.std.proofs.Common.{◌≡◌, ◌+◌, ◌≤◌, ◌++◌, length, All}
use Rattle.std.specs.Vec.Iter.{into_iter_items, into_iter_len}
use Rattle.strm_script_parse.specs.Draft.{IsAt}
use Rattle.strm_script_parse.specs.Plan.{draft_view}
use Rattle.strm_script_parse.specs.Reading.{lines_onto}
use Rattle.strm_script_parse.specs.Section.{IsMore, IsSection, whole_lines, whole_text}
use Rattle.strm_script_parse.specs.declared.parsing.TheConstants.{LONGEST_SCRIPT}
use Rattle.strm_script_parse.proofs.parsing.add_sections.Given as goal

-- the sections so far made the draft, onto which the lines of the others go
abbrev pub invariant-loop-section : goal.invariant-loop-section
invariant-loop-section g l = record {
  left : into_iter_len l.section-iterator ≡ length (into_iter_items l.section-iterator);
  rest : l.yielded ++ into_iter_items l.section-iterator ≡ l.fn.sections.items;
  onto : lines_onto g.M.Kind.ReadKind.words l.fn.before (draft_view l.fn.draft) (whole_lines l.fn.sections.items) ≡ lines_onto g.M.Kind.ReadKind.words l.many (draft_view l.draft) (whole_lines (into_iter_items l.section-iterator));
  few : l.many + length (whole_text (into_iter_items l.section-iterator)) ≤ LONGEST_SCRIPT;
  stands : IsAt l.many (draft_view l.draft);
  streams : IsMore (draft_view l.fn.draft).streams (draft_view l.draft).streams;
  all : All (IsSection g.M.Kind.ReadKind.words (draft_view l.fn.draft).streams) (into_iter_items l.section-iterator);
}
