use Rattle.std.proofs.Common.{◌≡◌}
use Rattle.strm_script_parse.specs.RunInput.{calls_of_blocks}
use Rattle.strm_script_parse.proofs.making.make_blocks.Given as goal

-- the calls of the blocks are those that were declared
abbrev pub invariant-loop-block : goal.invariant-loop-block
invariant-loop-block g l = calls_of_blocks l.blocks ≡ calls_of_blocks l.fn.blocks
