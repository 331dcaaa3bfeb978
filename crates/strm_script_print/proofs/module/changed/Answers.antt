use Rattle.std.proofs.Common.{◌∙◌}
use Rattle.strm_script_print.proofs.TableLemmas.{all_changed}
use Rattle.strm_script_print.proofs.module.changed.Goals as goal

pub returns : goal.returns
returns c = c.loop-at.invariant.same ∙ all_changed c.args.table.now c.loop-at.at c.loop-at-test.false c.loop-at.auto.at-end
