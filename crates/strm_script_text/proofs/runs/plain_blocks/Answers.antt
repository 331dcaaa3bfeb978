use Rattle.std.proofs.Common.{◌≡◌, ◌+◌, ◌-◌, ◌∙◌, sym, arith}
use Rattle.strm_script_text.proofs.RunLemmas.{plain_more}
use Rattle.strm_script_text.proofs.runs.plain_blocks.Goals as goal

pub loop-many-preserved : goal.loop-many-preserved
loop-many-preserved c =
    let block : c.loop-many.many + 32 - c.loop-many.many ≡ 32 = omega arith in
    record {
      within = omega (arith, c.loop-many-test.true, c.loop-many.invariant.within);
      plain = plain_more c.loop-many.many 32 c.args.bytes.now c.loop-many.invariant.plain (rw block at (sym c.are_plain.ensures ∙ c.if-are_plain.true));
    }
