use Rattle.std.proofs.Common.{◌≡◌, ◌++◌, map, drop}
use Rattle.strm_script_orders.specs.Lanes.{at_start, listed, order_text, words_of}
use Rattle.strm_script_orders.proofs.lanes.Lanes.spell.Given as goal

-- with the words that are left it is the spelling of all
abbrev pub invariant-loop-choice : goal.invariant-loop-choice
invariant-loop-choice l = record {
  same : at_start l.self ≡ at_start l.fn.self;
  text : l.text.items ++ listed l.before (words_of l.self (map (λ choice. choice.one) (drop l.choice-index l.choices))) ≡ order_text (at_start l.fn.self) (map (λ choice. choice.one) l.choices);
}
