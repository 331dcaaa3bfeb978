use Rattle.std.proofs.Common.{length}
use Rattle.strm_script_explain.proofs.near.+is_near.Given as goal

abbrev pub decreases-is_near : goal.decreases-is_near
decreases-is_near l = length l.text.now
