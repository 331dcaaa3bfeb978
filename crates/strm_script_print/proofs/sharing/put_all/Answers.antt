use Rattle.std.proofs.Common.{subst}
use Rattle.std.specs.Io.KnownBytes.{Appends}
use Rattle.strm_script_parse.specs.Plan.{names_view}
use Rattle.strm_script_print.proofs.SharingLemmas.{all_printed, then_written}
use Rattle.strm_script_print.proofs.sharing.put_all.Goals as goal

pub returns : goal.returns
returns g c =
    let lines = all_printed g.K.PrintKind.spelling (names_view c.args.names.now) c.args.logs.now c.args.texts.now c.requires in
    let first = subst (λ text. Appends (g.W.Write.contents c.args.w.now) (g.W.Write.contents c.put_texts.new.w) text) lines c.in_ok-put_texts.ensures in
    then_written c.put_links.result _ _ _ _ _ first (rw c.as_slice.ensures.value at c.put_links.ensures)
