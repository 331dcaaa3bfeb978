use Rattle.std.proofs.Common.{refl, ap, ◌∙◌}
use Rattle.strm_script_orders.specs.Lanes.{at_start}
use Rattle.strm_script_orders.proofs.LaneLemmas.{spelt_more, started_twice}
use Rattle.strm_script_orders.proofs.lanes.Lanes.spell.Goals as goal

pub loop-choice-init : goal.loop-choice-init
loop-choice-init c = record {
  same = ap at_start c.start_again.ensures ∙ started_twice c.args.self.now;
  text = rw (c.new-text.ensures.items, c.start_again.ensures) refl;
}

pub loop-choice-preserved : goal.loop-choice-preserved
loop-choice-preserved c = record {
  same = c.step.ensures.same ∙ c.loop-choice.invariant.same;
  text = spelt_more c.loop-choice.self c.step.new.self c.args.choices.now c.loop-choice.choice-index c.in-Some.number _ c.loop-choice.text.items c.loop-choice.before.now c.extend_from_slice.new.self.items c.add_word.new.text.items _ c.loop-choice-test.true c.in-Some.ensures.number c.in-Some.ensures.stepped c.in_ok-extend_from_slice.ensures.items c.in_ok-add_word.ensures c.loop-choice.invariant.text;
}
