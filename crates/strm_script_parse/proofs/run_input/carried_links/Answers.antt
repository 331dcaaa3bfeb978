use Rattle.std.proofs.Common.{Some, None, [], ◌∷◌, ◌++◌, ap, sym, ◌∙◌}
use Rattle.std.proofs.lemmas.List.{append-nil}
use Rattle.strm_link.specs.Rule.{RuleValue}
use Rattle.strm_script_parse.proofs.MoreLemmas.{one_carried}
use Rattle.strm_script_parse.proofs.run_input.carried_links.Goals.{in-Some+in_ok-push, in_default}
use Rattle.strm_script_parse.proofs.run_input.carried_links.Goals as goal

pub loop-link-preserved : goal.loop-link-preserved
loop-link-preserved c =
    let links = c.args.links.now in
    let link = c.link-item.result in
    let made = c.loop-link.all.items in
    elim c.match-link.branch [
      | in-Some+in_ok-push w ↦ one_carried links c.loop-link.link-index link made _ (Some w.in-Some.by) c.loop-link-test.true c.link-item.is w.in-Some.is c.loop-link.invariant (ap (λ all. all.items) w.all-is ∙ w.in_ok-push.ensures.items ∙ ap (λ (rule : RuleValue). made ++ record { by = w.in-Some.by; from = link.from; to = link.to; rule = rule } ∷ []) w.copy.ensures)
      | in_default w ↦ one_carried links c.loop-link.link-index link made _ None c.loop-link-test.true c.link-item.is w.in_default.is c.loop-link.invariant (ap (λ all. all.items) w.all-is ∙ sym (append-nil made))
    ]
