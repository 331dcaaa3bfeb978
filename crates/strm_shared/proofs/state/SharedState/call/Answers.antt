use Rattle.std.proofs.Common.{◌≡◌, true, false, refl, inr}
use Rattle.strm_shared_log.proofs.LogLemmas.{same_log}
use Rattle.strm_shared.proofs.ArrivalLemmas.{all_same, found}
use Rattle.strm_shared.proofs.state.SharedState.call.Goals as goal

-- room for the entry changes nothing else, and then messages came in
pub returns-then-not-admit_arrivals-clause-log : goal.returns-then-not-admit_arrivals-clause-log
returns-then-not-admit_arrivals-clause-log g c =
    let lacks : c.admit_arrivals.result ≡ false = cc c.if-not-admit_arrivals.true in
    let all = all_same {K = g.row.M-Kind.Denot} g.M.Kind.Kinds.means _ _ _ _ _ c.in-Ok.ensures.same c.admit_arrivals.ensures.log in
    rw (← c.self.view_is)
    (record {
      before = c.admit_arrivals.new.self.log;
      finds = inr (rw lacks at all);
      calls = (refl, same_log _);
    })

pub returns-clause-log : goal.returns-clause-log
returns-clause-log g c =
    let has : c.admit_arrivals.result ≡ true = cc c.if-not-admit_arrivals.false in
    let all = all_same {K = g.row.M-Kind.Denot} g.M.Kind.Kinds.means _ _ _ _ _ c.in-Ok.ensures.same c.admit_arrivals.ensures.log in
    rw (← c.self.view_is)
    (record {
      before = c.admit_arrivals.new.self.log;
      finds = rw c.enter.ensures.inlet (found g.M.Kind.Kinds.means _ _ c.enter.result _ c.enter.ensures.made (rw has at all));
      calls = c.enter.ensures.log;
    })
