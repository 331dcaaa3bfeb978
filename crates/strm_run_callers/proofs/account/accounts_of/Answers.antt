use Rattle.std.proofs.Common.{append_assoc}
use Rattle.strm_run_callers.proofs.AccountLemmas.{accounts_more}
use Rattle.strm_run_callers.proofs.account.accounts_of.Goals as goal

pub loop-seat-preserved : goal.loop-seat-preserved
loop-seat-preserved g c =
    let was = c.loop-seat.invariant in
    record {
      rest = rw (append_assoc, ← c.in-Some.ensures.steps.0) was.rest;
      all = accounts_more c.loop-seat.yielded c.in-Some.seat c.loop-seat.all.items c.push.new.self.items c.new.result was.all c.new.ensures c.in_ok-push.ensures.items;
    }
