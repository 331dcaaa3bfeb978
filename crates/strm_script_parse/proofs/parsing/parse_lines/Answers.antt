use Rattle.std.proofs.Common.{[], rules, subst}
use Rattle.std.specs.Str.Lines.{lines}
use Rattle.std.proofs.lemmas.List.{append-nil}
use Rattle.strm_script_parse.specs.Plan.{draft_view}
use Rattle.strm_script_parse.specs.Reading.{lines_onto, nothing_yet}
use Rattle.strm_script_parse.specs.Spelling.{Spells}
use Rattle.strm_script_parse.specs.Section.{AreRead, IsFaultOfLines}
use Rattle.strm_script_parse.proofs.ReadLemmas.{spells_fault, spells_whole}
use Rattle.strm_script_parse.proofs.parsing.parse_lines.Goals as goal

pub returns-in_err-read_lines : goal.returns-in_err-read_lines
returns-in_err-read_lines g c =
    let words = g.M.Kind.ReadKind.words in
    let fault = c.in_err-read_lines.field-0.0 in
    let there = subst (λ d. IsFaultOfLines words 0 d c.args.bytes.now fault) c.new-draft.ensures c.in_err-read_lines.ensures.fault in
    subst (λ all. Spells c.from_residual.result (lines_onto words 0 nothing_yet all)) (append-nil (lines c.args.bytes.now)) (spells_fault words 0 nothing_yet c.args.bytes.now [] c.from_residual.result fault (search rules) there)

pub returns : goal.returns
returns g c =
    let words = g.M.Kind.ReadKind.words in
    let read = subst (λ d. AreRead words 0 d c.args.bytes.now c.in_ok-read_lines.field-0 (draft_view c.read_lines.new.draft)) c.new-draft.ensures c.in_ok-read_lines.ensures.read in
    spells_whole words 0 c.in_ok-read_lines.field-0 nothing_yet (draft_view c.read_lines.new.draft) c.args.bytes.now c.finished.result read c.finished.ensures
