use Rattle.std.proofs.Common.{◌≡◌, ◌≤◌, length, vec_len, vec_capacity}
use Rattle.strm_script_orders.specs.Choices.{successor}
use Rattle.strm_script_orders.proofs.listed.ListedOrder.advance.Given as goal

-- the choices that are left have the same successor, and it has room
abbrev pub invariant-loop-last : goal.invariant-loop-last
invariant-loop-last l = record {
  same : successor l.self-inside.choices.items ≡ successor l.fn.self.choices;
  made : l.self-inside.made ≡ 0;
  steps : l.self-inside.steps ≡ l.fn.self.steps;
  kept : length l.self-inside.choices.items ≤ l.self-inside.steps;
  room : l.self-inside.steps ≤ vec_capacity l.self-inside.choices;
}

abbrev pub decreases-loop-last : goal.decreases-loop-last
decreases-loop-last l = vec_len l.self-inside.choices
