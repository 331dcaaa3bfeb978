use Rattle.std.proofs.Common.{arith, rules, ◌∙◌}
use Rattle.strm_script_parse.specs.Plan.{draft_view}
use Rattle.strm_script_parse.specs.Section.{IsFaultOfLines}
use Rattle.strm_script_parse.proofs.ReadLemmas.{first_fault, first_more, later_fault, line_after, line_at, told}
use Rattle.strm_script_parse.proofs.parsing.read_lines.Goals as goal

pub returns-in_err-read_line-clause-fault : goal.returns-in_err-read_line-clause-fault
returns-in_err-read_line-clause-fault g c =
    let words = g.M.Kind.ReadKind.words in
    let d = draft_view c.args.draft.now in
    let e = draft_view c.loop-rest.draft in
    let fault = c.in_err-read_line.field-0.0 in
    let here = first_fault words c.loop-rest.many e c.loop-rest.rest.now c.first_line.result.0.now c.first_line.result.1.now c.first_line.ensures.first fault c.in_err-read_line.ensures.fault in
    told c.from_residual.result fault (λ fault. IsFaultOfLines words c.args.before d c.args.text.now fault) (search rules) (later_fault words c.args.before c.loop-rest.many d e c.args.text.now c.loop-rest.rest.now fault c.loop-rest.invariant.onto here)

pub loop-rest-preserved : goal.loop-rest-preserved
loop-rest-preserved g c =
    let words = g.M.Kind.ReadKind.words in
    let d = draft_view c.loop-rest.draft in
    let e = draft_view c.read_line.new.draft in
    let was = c.loop-rest.invariant in
    let read = c.in_ok-read_line.ensures.read in
    record {
      onto = λ others. was.onto others ∙ first_more words c.loop-rest.many d c.loop-rest.rest.now c.first_line.result.0.now c.first_line.result.1.now c.first_line.ensures.first e others read;
      few = omega (arith, was.few, c.first_line.ensures.shorter);
      stands = line_at words c.loop-rest.many d e c.first_line.result.0.now was.stands read;
      streams = line_after words (draft_view c.args.draft.now).streams d e c.loop-rest.many c.first_line.result.0.now was.stands read was.streams;
    }
