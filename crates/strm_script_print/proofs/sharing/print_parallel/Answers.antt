use Rattle.std.proofs.Common.{OnOk, ap, subst, ◌∙◌}
use Rattle.std.specs.Io.KnownBytes.{Appends}
use Rattle.strm_script_parse.specs.Plan.{names_view}
use Rattle.strm_script_print.specs.Lines.{transcript_text}
use Rattle.strm_script_print.proofs.SharingLemmas.{anyway}
use Rattle.strm_script_print.proofs.sharing.print_parallel.Goals as goal

-- the lines of all streams are written, one after another, and those of the links
pub returns-clause-text : goal.returns-clause-text
returns-clause-text g c =
    let logs = c.as_slice-2.ensures.value ∙ c.in-Ok.ensures.logs ∙ ap (λ logs. logs.items) c.replace-logs.ensures.value in
    subst (λ logs. OnOk c.put_all.result (Appends (g.W.Write.contents c.args.w.now) (g.W.Write.contents c.put_all.new.w) (transcript_text g.K.PrintKind.spelling (names_view c.args.names.now) logs))) logs c.put_all.ensures

-- the logs are there again
pub returns-clause-kept : goal.returns-clause-kept
returns-clause-kept g c = anyway c.put_all.result _ (c.in-Ok.ensures.logs ∙ ap (λ logs. logs.items) c.replace-logs.ensures.value)
