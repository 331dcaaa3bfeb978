use Rattle.std.proofs.Common.{All}
use Rattle.strm_run_callers.specs.Play.{ArePlayed}
use Rattle.strm_run.proofs.ending.accounts_by_caller.Given as goal

-- the callers so far have played their scripts
abbrev pub invariant-loop-one : goal.invariant-loop-one
invariant-loop-one g l = All (λ accounts. ArePlayed g.N.RunName.run accounts.items) l.all.items
