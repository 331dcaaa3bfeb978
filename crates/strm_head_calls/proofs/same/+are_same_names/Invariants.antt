use Rattle.std.proofs.Common.{length}
use Rattle.strm_head_calls.proofs.same.+are_same_names.Given as goal

-- the rest of a list is shorter
abbrev pub decreases-are_same_names : goal.decreases-are_same_names
decreases-are_same_names l = length l.one.now
