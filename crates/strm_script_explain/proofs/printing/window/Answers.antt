use Rattle.std.proofs.Common.{arith, sym, length-take-le}
use Rattle.std.proofs.lemmas.List.{take_all}
use Rattle.strm_script_explain.proofs.printing.window.Goals as goal

pub slice_bounds-result-end : goal.slice_bounds-result-end
slice_bounds-result-end c = sym (length-take-le 72 c.args.text.now (omega arith))

pub returns-else-text-gt-WINDOW : goal.returns-else-text-gt-WINDOW
returns-else-text-gt-WINDOW c = sym (take_all 72 c.args.text.now c.if-text-gt-WINDOW.false)
