use Rattle.strm_run_callers.specs.Play.{ArePlayed}
use Rattle.strm_run_input.proofs.EachLemmas.{each_pushed}
use Rattle.strm_run.proofs.ending.accounts_by_caller.Goals as goal

pub loop-one-preserved : goal.loop-one-preserved
loop-one-preserved g c =
    each_pushed (λ accounts. ArePlayed g.N.RunName.run accounts.items) c.loop-one.all.items c.push.new.self.items c.into_accounts.result c.in_ok-push.ensures.items c.loop-one.invariant c.into_accounts.ensures
