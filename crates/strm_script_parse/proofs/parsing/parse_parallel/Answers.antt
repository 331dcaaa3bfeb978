use Rattle.std.proofs.Common.{ap, subst, sym, ◌∙◌}
use Rattle.std.specs.Str.Lines.{lines}
use Rattle.strm_script_parse.specs.Plan.{draft_view}
use Rattle.strm_script_parse.specs.Reading.{lines_onto, nothing_yet}
use Rattle.strm_script_parse.specs.Section.{AreRead}
use Rattle.strm_script_parse.specs.Spelling.{Spells}
use Rattle.strm_script_parse.proofs.ReadLemmas.{spelt_sound}
use Rattle.strm_script_parse.proofs.parsing.parse_parallel.Goals as goal

pub returns-then-threads-eq1-clause-sound : goal.returns-then-threads-eq1-clause-sound
returns-then-threads-eq1-clause-sound g c = spelt_sound g.M.Kind.ReadKind.words (lines c.args.bytes.now) c.parse_lines.result c.parse_lines.ensures

pub returns-clause-sound : goal.returns-clause-sound
returns-clause-sound g c =
    let words = g.M.Kind.ReadKind.words in
    let e = draft_view c.read_lines.new.draft in
    let read = subst (λ d. AreRead words 0 d c.cut.result.0.now c.in_ok-before.before e) c.new-draft.ensures c.in_ok-before.ensures.read in
    let whole = ap (lines_onto words 0 nothing_yet) c.cut.ensures.lines ∙ read.onto (lines c.cut.result.1.now) ∙ ap (lines_onto words c.in_ok-before.before e) (sym c.in-Ok.ensures.lines) in
    spelt_sound words (lines c.args.bytes.now) c.add_sections.result (subst (λ s. Spells c.add_sections.result s) (sym whole) c.add_sections.ensures)
