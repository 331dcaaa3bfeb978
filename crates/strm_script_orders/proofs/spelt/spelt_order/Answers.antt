use Rattle.std.proofs.Common.{◌≡◌, [], List, Result, Ok, Err, refl, ap, ◌∙◌}
use Rattle.strm_script_orders.specs.declared.fault.OrderFault.{OrderFault}
use Rattle.strm_script_orders.specs.declared.listed.Choice.{Choice}
use Rattle.strm_script_orders.specs.Lanes.{at_start}
use Rattle.strm_script_orders.specs.Spelt.{behind, choices_by, choices_of, words_in}
use Rattle.strm_script_orders.proofs.LaneLemmas.{started_twice}
use Rattle.strm_script_orders.proofs.spelt.spelt_order.Goals as goal

-- behind no choices there is what there was
behind_none : (others : Result (List Choice) OrderFault) → behind [] others ≡ others
behind_none (Ok choices) = refl
behind_none (Err fault) = refl

pub loop-word-init : goal.loop-word-init
unfolding choices_of
loop-word-init c = record {
  same = ap at_start c.start_again.ensures ∙ started_twice c.args.lanes.now;
  choices = rw (c.new-choices.ensures.items, c.start_again.ensures, c.of_words-words.ensures) (behind_none (choices_by 1 (at_start c.args.lanes.now) (words_in c.args.text.now)));
}
