use Rattle.std.proofs.Common.{arith, ◌∙◌, sym}
use Rattle.strm_script_text.proofs.FieldLemmas.{allowed_still, field_ended, last_field, refused_here, unparted_more}
use Rattle.strm_script_text.proofs.lines.cut_fields.Goals as goal
use Rattle.strm_script_text.proofs.lines.cut_fields.Goals.{then-is_blank+in_ok-add_field, else-is_blank}

-- a blank ends a field, and another byte that is of no field makes the line one that may not stand
pub loop-at-preserved : goal.loop-at-preserved
loop-at-preserved c =
    let so_far = c.loop-at.invariant in
    let line = c.args.line.now in
    let at = c.loop-at.at in
    elim c.if-is_blank.branch [
      | then-is_blank+in_ok-add_field w ↦ record {
        within = omega (arith, w.start-is);
        fields = rw (w.fields-is, w.start-is) (field_ended line c.loop-at.start at _ _ so_far.within c.loop-at-test.true so_far.unparted (sym w.if-is_blank.ensures) w.in_ok-add_field.ensures so_far.fields);
        unparted = λ k from under. absurd (omega (arith, w.start-is));
        allowed = w.allowed-is ∙ allowed_still line at _ c.loop-at-test.true (sym w.if-is_blank.ensures) so_far.allowed;
      }
      | else-is_blank w ↦ record {
        within = omega (arith, w.start-is, so_far.within);
        fields = rw (w.fields-is, w.start-is) so_far.fields;
        unparted = λ k from under. unparted_more line c.loop-at.start at so_far.unparted (sym w.if-is_blank.ensures) k (omega (arith, w.start-is)) under;
        allowed = w.allowed-is ∙ refused_here line at c.loop-at-test.true (sym c.if-is_of_field.ensures) (sym w.if-is_blank.ensures);
      }
    ]

pub returns-clause-fields : goal.returns-clause-fields
returns-clause-fields c = last_field c.args.line.now _ _ _ _ c.loop-at-test.false c.loop-at.invariant.unparted c.in_ok-add_field-2.ensures c.loop-at.invariant.fields
