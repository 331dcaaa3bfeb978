use Rattle.std.proofs.Common.{ap, sym, ◌∙◌, arith, slice_get}
use Rattle.std.specs.Str.Lines.{lines}
use Rattle.strm_script_explain.proofs.LineLemmas.{first_behind, others_behind, none_behind, no_lines}
use Rattle.strm_script_explain.proofs.line.line_at.Goals as goal

pub returns-then-many-number : goal.returns-then-many-number
returns-then-many-number c =
    let all = lines c.args.text.now in
    sym (ap (slice_get all) (sym c.if-many-number.true) ∙ first_behind all c.loop-rest.many _ _ (sym c.loop-rest.invariant.lines_are ∙ c.first_line.ensures.first))

pub loop-rest-preserved : goal.loop-rest-preserved
loop-rest-preserved c = record {
  few = omega (arith, c.loop-rest.invariant.few, c.if-many-number.false);
  lines_are = others_behind (lines c.args.text.now) c.loop-rest.many _ _ (sym c.loop-rest.invariant.lines_are ∙ c.first_line.ensures.first);
}

pub returns : goal.returns
returns c =
    let gone = no_lines c.loop-rest.rest.now (sym c.is_empty.ensures ∙ c.loop-rest-test.false) in
    sym (none_behind (lines c.args.text.now) c.loop-rest.many c.args.number c.loop-rest.invariant.few (sym c.loop-rest.invariant.lines_are ∙ gone))
