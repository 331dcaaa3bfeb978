use Rattle.std.proofs.Common.{◌+◌, ◌<◌, All, length}
use Rattle.strm_run.proofs.steps.list_feeders.Given as goal

-- the places that are listed are there
abbrev pub invariant-loop-at : goal.invariant-loop-at
invariant-loop-at g l = All (λ turn. turn < l.first + length l.feeders) l.ready.items
