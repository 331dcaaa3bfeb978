use Rattle.std.proofs.Common.{◌≡◌, ◌∙◌, Some, ap, sym, slice_get}
use Rattle.strm_queue.specs.Run.{with_place}
use Rattle.strm_chain.specs.Number.{queue_number, place_number}
use Rattle.strm_chain_ends.proofs.DueLemmas.{due_holds}
use Rattle.strm_chain.proofs.EnablingLemmas.{ready_unwanted, ready_still, ready_woken}
use Rattle.strm_chain.proofs.enabling.Enabling.back_enable.Goals as goal

pub returns-then-is_due-clause-ready : goal.returns-then-is_due-clause-ready
returns-then-is_due-clause-ready g c =
    let wants : slice_get c.args.self.now.wanted (queue_number c.args.queue) ≡ Some (Some c.in-Some.place) = c.wanted_by.ensures ∙ ap Some c.in-Some.is in
    let holds = due_holds g.M.Kind.Kinds.means c.args.ends.now.image c.in-Some.place (sym c.is_due.ensures.value ∙ c.if-is_due.true) in
    ready_woken g.M.Kind.Kinds.means c.args.ends.now.image c.args.queue c.in-Some.place c.args.self.now c.enable_if_filled.new.self wants
    (c.enable_if_filled.ensures.wanted ∙ c.clear_wanted.ensures.wanted)
    (c.enable_if_filled.ensures.own holds ∙ ap (λ r. with_place r.items (place_number c.in-Some.place)) c.clear_wanted.ensures.run)

pub returns-else-is_due-clause-ready : goal.returns-else-is_due-clause-ready
returns-else-is_due-clause-ready g c =
    let wants : slice_get c.args.self.now.wanted (queue_number c.args.queue) ≡ Some (Some c.in-Some.place) = c.wanted_by.ensures ∙ ap Some c.in-Some.is in
    ready_still g.M.Kind.Kinds.means c.args.ends.now.image c.args.queue c.in-Some.place c.args.self.now wants (sym c.is_due.ensures.value ∙ c.if-is_due.false)

pub returns-in_default-clause-ready : goal.returns-in_default-clause-ready
returns-in_default-clause-ready g c =
    ready_unwanted g.M.Kind.Kinds.means c.args.ends.now.image c.args.queue c.args.self.now (c.wanted_by.ensures ∙ ap Some c.in_default.is)
