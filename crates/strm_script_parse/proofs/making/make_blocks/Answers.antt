use Rattle.std.proofs.Common.{◌∙◌}
use Rattle.strm_script_parse.proofs.MoreLemmas.{same_blocks}
use Rattle.strm_script_parse.proofs.making.make_blocks.Goals as goal

pub loop-block-preserved : goal.loop-block-preserved
loop-block-preserved g c =
    same_blocks c.loop-block.blocks c.loop-block.block-index c.block-item.result c.make_calls.new.lines (c.in_ok-make_calls.ensures ∙ c.as_mut_slice.ensures.value) ∙ c.loop-block.invariant
