use Rattle.std.proofs.Common.{◌≡◌, ◌+◌, IfSome, length, map, take, rules, sym, ap, subst, ◌∙◌}
use Rattle.std.specs.Str.Lines.{lines}
use Rattle.strm_script_parse.specs.Plan.{call_view, draft_view}
use Rattle.std.proofs.lemmas.List.{length-map}
use Rattle.strm_script_parse.specs.Section.{AreCallsBehind, AreRead, IsFaultOfLines, takes}
use Rattle.strm_script_parse.proofs.ReadLemmas.{each_err, each_ok, first_fault, first_more, later_fault, line_at, read_behind, section_read, told}
use Rattle.strm_script_parse.proofs.parsing.add_section.Goals as goal

pub returns-in_err-read_line-clause-fault : goal.returns-in_err-read_line-clause-fault
returns-in_err-read_line-clause-fault g c =
    let words = g.M.Kind.ReadKind.words in
    let d = draft_view c.args.draft.now in
    let fault = c.in_err-read_line.field-0.0 in
    told c.from_residual.result fault (λ fault. IsFaultOfLines words c.args.before d c.args.section.text.now fault) (search rules) (first_fault words c.args.before d c.args.section.text.now c.first_line.result.0.now c.first_line.result.1.now c.first_line.ensures.first fault c.in_err-read_line.ensures.fault)

pub returns-then-takes-clause-read : goal.returns-then-takes-clause-read
returns-then-takes-clause-read g c =
    let words = g.M.Kind.ReadKind.words in
    let d = draft_view c.args.draft.now in
    let e = draft_view c.read_line.new.draft in
    let calls = map call_view c.in-Some.calls.calls in
    let streams = take c.args.streams d.streams in
    let its = subst (λ found. IfSome found (λ calls. AreCallsBehind words streams c.args.section.text.now calls)) c.in-Some.is c.requires.section.calls in
    let many : length e.streams ≡ c.args.streams = ap (λ l. length l) (sym c.streams.ensures) ∙ length-map c.streams.result.now.entries _ ∙ sym c.len.ensures.len ∙ c.if-len-streams.true in
    let some : length c.in-Some.calls.calls ≡ c.len-then-len-streams.result = search rules in
    let room = ap (λ n. takes e.place n) (length-map c.in-Some.calls.calls call_view ∙ some) ∙ sym c.if-takes.ensures in
    let read = section_read words c.args.before d c.args.section.text.now c.first_line.result.0.now c.first_line.result.1.now c.first_line.ensures.first e c.args.streams calls c.in-Some.calls.lines c.requires.at c.in_ok-read_line.ensures.read c.requires.declared many room (its.add c.first_line.result.0.now (lines c.first_line.result.1.now) c.first_line.ensures.first) its.few in
    subst (λ f. AreRead words c.args.before d c.args.section.text.now (c.args.before + 1 + c.in-Some.calls.lines) f) (sym c.set_calls.ensures) read

pub read_lines-requires-clause-at : goal.read_lines-requires-clause-at
read_lines-requires-clause-at g c = λ _ _. line_at g.M.Kind.ReadKind.words c.args.before (draft_view c.args.draft.now) (draft_view c.read_line.new.draft) c.first_line.result.0.now c.requires.at c.in_ok-read_line.ensures.read

pub returns-clause-read : goal.returns-clause-read
returns-clause-read g c =
    let words = g.M.Kind.ReadKind.words in
    let d = draft_view c.args.draft.now in
    let e = draft_view c.read_line.new.draft in
    each_ok c.read_lines.result _ _ (λ after read. read_behind words c.args.before d c.args.section.text.now c.first_line.result.0.now c.first_line.result.1.now c.first_line.ensures.first e (draft_view c.read_lines.new.draft) after c.requires.at c.in_ok-read_line.ensures.read c.first_line.ensures.shorter read) c.read_lines.ensures.read

pub returns-clause-fault : goal.returns-clause-fault
returns-clause-fault g c =
    let words = g.M.Kind.ReadKind.words in
    let d = draft_view c.args.draft.now in
    let e = draft_view c.read_line.new.draft in
    each_err c.read_lines.result _ _ (λ fault there. later_fault words c.args.before (c.args.before + 1) d e c.args.section.text.now c.first_line.result.1.now fault (λ others. first_more words c.args.before d c.args.section.text.now c.first_line.result.0.now c.first_line.result.1.now c.first_line.ensures.first e others c.in_ok-read_line.ensures.read) there) c.read_lines.ensures.fault
