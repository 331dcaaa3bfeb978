use Rattle.std.proofs.Common.{◌≡◌, ◌+◌, length}
use Rattle.strm_script_orders.specs.Lanes.{at_start}
use Rattle.strm_script_orders.specs.Spelt.{behind, choices_by, choices_of}
use Rattle.strm_script_orders.proofs.spelt.spelt_order.Given as goal

-- with the words that are left these are the choices of all
abbrev pub invariant-loop-word : goal.invariant-loop-word
invariant-loop-word l = record {
  same : at_start l.lanes ≡ at_start l.fn.lanes;
  choices : behind l.choices.items (choices_by (length l.choices.items + 1) l.lanes l.words) ≡ choices_of (at_start l.fn.lanes) l.text;
}

abbrev pub decreases-loop-word : goal.decreases-loop-word
decreases-loop-word l = length l.words
