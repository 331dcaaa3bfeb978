use Rattle.std.proofs.Common.{[], is_some, length, unwrap_or, ap, sym, ◌∙◌, arith, length-append}
use Rattle.strm_script_orders.specs.Choices.{successor}
use Rattle.strm_script_orders.proofs.ChoiceLemmas.{last_goes_on, last_is_dropped}
use Rattle.strm_script_orders.proofs.listed.ListedOrder.advance.Goals as goal

pub returns-in-Some-next-clause-next : goal.returns-in-Some-next-clause-next
returns-in-Some-next-clause-next c =
    ap is_some (last_goes_on c.pop.new.self.items c.in-Some.last c.in-Some-next.next c.in-Some-next.ensures ∙ ap successor (sym c.in-Some.ensures.items) ∙ c.loop-last.invariant.same)

pub returns-in-Some-next-clause-choices : goal.returns-in-Some-next-clause-choices
returns-in-Some-next-clause-choices c =
    c.push_reserved.ensures.items
    ∙ ap (λ later. unwrap_or later []) (last_goes_on c.pop.new.self.items c.in-Some.last c.in-Some-next.next c.in-Some-next.ensures ∙ ap successor (sym c.in-Some.ensures.items) ∙ c.loop-last.invariant.same)

pub loop-last-preserved : goal.loop-last-preserved
loop-last-preserved c = record {
  same = last_is_dropped c.pop.new.self.items c.in-Some.last (sym c.in_default-next.is ∙ c.next.ensures) ∙ ap successor (sym c.in-Some.ensures.items) ∙ c.loop-last.invariant.same;
  made = c.loop-last.invariant.made;
  steps = c.loop-last.invariant.steps;
  kept = omega (arith, simp length-append at (ap (λ l. length l) c.in-Some.ensures.items), c.loop-last.invariant.kept);
  room = rw c.pop.ensures.capacity c.loop-last.invariant.room;
}
