use Rattle.std.proofs.Common.{◌≡◌, length}
use Rattle.strm_script_words.specs.Push.{are_distinct}
use Rattle.strm_script_words.proofs.push.are_distinct.Given as goal

-- the rest tells of the whole
abbrev pub invariant-loop-byte : goal.invariant-loop-byte
invariant-loop-byte l = are_distinct l.rest ≡ are_distinct l.bytes

abbrev pub decreases-loop-byte : goal.decreases-loop-byte
decreases-loop-byte l = length l.rest
