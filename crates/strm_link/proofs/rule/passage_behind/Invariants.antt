use Rattle.std.proofs.Common.{◌≡◌, ◌≤◌, ◌-◌, ◌*◌, ℕ}
use Rattle.strm_link.specs.declared.passage.Passage.{Passage}
use Rattle.strm_link.specs.Rule.{RuleValue}
use Rattle.strm_link.specs.Passage.{nothing_yet, passage_behind, seen}
use Rattle.strm_link.proofs.rule.passage_behind.Given as goal

-- the rest decides, by how far the link is
pub record IsSoFar (from rule : RuleValue) (passage : Passage) (many gone : ℕ) : Type 0 where
  pub behind : passage_behind rule passage (many - gone) ≡ passage_behind from nothing_yet many
  pub few : seen passage ≤ 2 * gone

abbrev pub invariant-loop : goal.invariant-loop
invariant-loop l = IsSoFar l.from l.rule l.passage l.many l.counter
