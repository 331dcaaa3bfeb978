use Rattle.std.proofs.Common.{rules, ◌≡◌}
use Rattle.strm_script_explain.specs.Printing.{explanation_text}
use Rattle.strsh.proofs.refusal.explanation.Goals as goal

pub returns-in-Ok-put_explanation : goal.returns-in-Ok-put_explanation
returns-in-Ok-put_explanation c =
    let empty = c.new-text.ensures.items in
    let name = c.as_bytes.ensures.value in
    let written = c.in-Ok-put_explanation.ensures in
    let is : c.put_explanation.new.w.items ≡ explanation_text c.args.name.now c.in-Ok.explanation = search rules in
    record { explanation = c.in-Ok.explanation; shown = c.in-Ok.ensures.shown; text_is = is }
