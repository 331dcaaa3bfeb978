use Rattle.std.proofs.Common.{◌≡◌, [], length}
use Rattle.strm_run_input.specs.Scripts.{in_blocks}
use Rattle.strm_run_input.proofs.script.skip_empty.Given as goal

-- the blocks that are left have all the calls
abbrev pub invariant-loop-blocks : goal.invariant-loop-blocks
invariant-loop-blocks g l = in_blocks l.blocks.items [] ≡ in_blocks l.fn.blocks.items []

abbrev pub decreases-loop-blocks : goal.decreases-loop-blocks
decreases-loop-blocks g l = length l.blocks.items
