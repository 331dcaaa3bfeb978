use Rattle.std.proofs.Common.{◌+◌, ap, ◌∙◌}
use Rattle.strm_script_orders.specs.Tally.{Run, missed_label}
use Rattle.strm_script_orders.proofs.CountLemmas.{as_number, run_added, within_more}
use Rattle.strm_script_orders.proofs.TallyLemmas.{adds_run}
use Rattle.strm_script_orders.proofs.tally.Tally.add.Goals as goal

pub invariant_of-self-2 : goal.invariant_of-self-2
invariant_of-self-2 c =
    let one : Run = record { label = c.args.label.items; text = c.args.text.items; is_unmet = c.args.is_unmet } in
    rw (c.in_ok-count_text.ensures.kept, c.in_ok-count_text.ensures.others, c.from.ensures, as_number c.args.is_unmet) (within_more c.self.inside.orders c.self.inside.kept.items c.self.inside.others c.self.inside.unmet one c.self.invariant)

pub returns-clause-added : goal.returns-clause-added
returns-clause-added c =
    let one : Run = record { label = c.args.label.items; text = c.args.text.items; is_unmet = c.args.is_unmet } in
    let missed = c.in_ok-missed.ensures ∙ ap (λ label. missed_label label c.args.is_unmet) c.as_slice.ensures.value in
    let added = run_added c.self.inside.orders c.self.inside.kept.items _ c.self.inside.others _ c.self.inside.unmet _ c.self.inside.first_unmet c.in_ok-missed.missed one c.in_ok-count_text.ensures.kept c.in_ok-count_text.ensures.others (ap (λ n. c.self.inside.unmet + n) (c.from.ensures ∙ as_number c.args.is_unmet)) missed in
    adds_run c.args.self.now _ one (rw (← c.self.view_is, c.or.ensures, c.take.ensures.value) added)
