use Rattle.std.proofs.Common.{◌≡◌, take}
use Rattle.strm_script_parse.specs.RunInput.{call_streams, calls_of_blocks}
use Rattle.strm_script_parse.proofs.run_input.call_streams.Given as goal

-- the streams of the blocks so far
abbrev pub invariant-loop-block : goal.invariant-loop-block
invariant-loop-block g l = l.streams.items ≡ call_streams (calls_of_blocks (take l.block-index l.full))
