use Rattle.std.proofs.Common.{◌<◌, ℕ, length, ap, subst}
use Rattle.rand_pcg.specs.Lcg.{Lcg}
use Rattle.strm_link.specs.Rule.{Drawn}
use Rattle.strm_link.specs.Source.{IsSource}
use Rattle.strm_link.proofs.RuleLemmas.{goes_on}
use Rattle.strm_link.proofs.rule.Rule.advance.Goals as goal
use Rattle.strm_link.proofs.rule.Rule.advance.Goals.{in-Pattern, in-Drawn}

pub returns : goal.returns
returns c = elim c.match-self.branch [
  | in-Pattern w ↦
      let within : w.in-Pattern.next < length w.in-Pattern.acts.items = subst (λ source. IsSource source) w.in-Pattern.is c.self.invariant in
      rw (w.self-inside-is, ← c.self.view_is, w.in-Pattern.is, w.place_behind.ensures.value, w.len.ensures.value) (goes_on w.in-Pattern.acts.items w.in-Pattern.next within)
  | in-Drawn w ↦ rw (w.self-inside-is, ← c.self.view_is, w.in-Drawn.is) (ap (λ (drawn : ℕ × Lcg). Drawn w.in-Drawn.odds drawn.1) w.next_word.ensures)
]
