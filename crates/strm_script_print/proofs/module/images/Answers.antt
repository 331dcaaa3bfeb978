use Rattle.std.proofs.Common.{◌∙◌, ap, map}
use Rattle.std.specs.Prelude.{slice_index}
use Rattle.strm_script_print.proofs.TableLemmas.{all_changed}
use Rattle.strm_script_print.proofs.module.images.Goals as goal

pub returns : goal.returns
returns c =
    c.loop-at.invariant.same ∙ ap (map (slice_index c.args.table.now)) (all_changed c.args.table.now c.loop-at.at c.loop-at-test.false c.loop-at.auto.at-end)
