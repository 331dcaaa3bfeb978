use Rattle.std.proofs.Common.{arith, length-drop}
use Rattle.std.proofs.lemmas.List.{take_rest}
use Rattle.strm_script_text.proofs.RunLemmas.{spelt_then}
use Rattle.strm_script_text.proofs.spelling.write_bytes.Goals as goal

pub loop-many-preserved : goal.loop-many-preserved
loop-many-preserved g c =
    let rest = take_rest c.args.bytes.now c.loop-many.many in
    let within = rw (rest, length-drop c.loop-many.many c.args.bytes.now) at c.in_ok-many.ensures.within in
    record {
      within = omega (arith, within, c.loop-many.invariant.within);
      text = spelt_then _ _ _ c.loop-many.many _ c.args.bytes.now c.loop-many.invariant.text (rw rest at c.in_ok-many.ensures.text);
    }
