use Rattle.std.proofs.Common.{◌+◌, ℕ, arith, sym, ap, ◌∙◌}
use Rattle.strm_script_explain.proofs.FieldLemmas.{edge_after, field_here, more_here, same_here, field_last, more_last, same_last}
use Rattle.strm_script_explain.proofs.mark.field_at.Goals as goal
use Rattle.strm_script_explain.proofs.mark.field_at.Goals.{then-start-at+else-many-number, else-start-at, else-start-line-via-then-start-line+else-many-number-2, else-start-line-via-else-start-line}

-- a field ends at a blank
pub returns-then-many-number-clause-field : goal.returns-then-many-number-clause-field
returns-then-many-number-clause-field c =
    let so_far = c.loop-at.invariant in
    let inside = c.loop-at-test.true in
    field_here c.args.line.now c.loop-at.start c.loop-at.at so_far.within (omega arith) so_far.edge so_far.unparted
    c.if-start-at.true inside (sym c.is_blank.ensures ∙ c.if-not-is_blank.false) c.args.number (so_far.counted ∙ c.if-many-number.true)

-- a blank is an edge, behind a field or behind another blank
pub loop-at-preserved : goal.loop-at-preserved
loop-at-preserved c =
    let so_far = c.loop-at.invariant in
    let line = c.args.line.now in
    let start = c.loop-at.start in
    let at = c.loop-at.at in
    let inside = c.loop-at-test.true in
    let blank = sym c.is_blank.ensures ∙ c.if-not-is_blank.false in
    elim c.if-start-at.branch [
      | then-start-at+else-many-number w ↦ record {
        within = omega arith;
        few = omega (arith, w.many-is, w.if-many-number.false, so_far.few);
        counted = more_here line start at so_far.within (omega arith) so_far.edge so_far.unparted w.if-start-at.true inside blank ∙ ap (λ (n : ℕ). n + 1) so_far.counted ∙ sym w.many-is;
        edge = edge_after line at inside blank;
        unparted = λ k from under. absurd (omega arith);
      }
      | else-start-at w ↦ record {
        within = omega arith;
        few = omega (arith, w.many-is, so_far.few);
        counted = same_here line start at so_far.within (omega arith) so_far.edge so_far.unparted w.if-start-at.false inside blank ∙ so_far.counted ∙ sym w.many-is;
        edge = edge_after line at inside blank;
        unparted = λ k from under. absurd (omega arith);
      }
    ]

-- the last field ends with the line
pub returns-then-many-number-2-clause-field : goal.returns-then-many-number-2-clause-field
returns-then-many-number-2-clause-field c =
    let so_far = c.loop-at.invariant in
    field_last c.args.line.now c.loop-at.start c.loop-at.at so_far.within c.loop-at-test.false c.loop-at.auto.at-end so_far.edge so_far.unparted
    c.if-start-line.true c.args.number (so_far.counted ∙ c.if-many-number-2.true)

pub returns-clause-none : goal.returns-clause-none
returns-clause-none c =
    let so_far = c.loop-at.invariant in
    let line = c.args.line.now in
    let start = c.loop-at.start in
    let at = c.loop-at.at in
    elim c.else-start-line.branch [
      | else-start-line-via-then-start-line+else-many-number-2 w ↦
          omega (arith, more_last line start at so_far.within c.loop-at-test.false c.loop-at.auto.at-end so_far.edge so_far.unparted w.if-start-line.true, so_far.counted, so_far.few, w.if-many-number-2.false)
      | else-start-line-via-else-start-line w ↦
          omega (arith, same_last line start at so_far.within c.loop-at-test.false c.loop-at.auto.at-end so_far.edge so_far.unparted w.if-start-line.false, so_far.counted, so_far.few)
    ]
