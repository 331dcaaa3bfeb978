use Rattle.std.proofs.Common.{List, All, Vec, Global, subst, sym}
use Rattle.strm_run_callers.specs.Account.{AccountValue}
use Rattle.strm_run.specs.Inside.Ending.{AreSeatsPlayed, HaveSameItems, IsOfAccounts}
use Rattle.strm_run.proofs.EndingLemmas.{carried_there, lent_back, of_same, seats_played, seats_same}
use Rattle.strm_run.proofs.ending.results_by_stream.Goals as goal

pub results_by_number-requires-clause-there : goal.results_by_number-requires-clause-there
results_by_number-requires-clause-there g c =
    carried_there g.N.RunName.run c.as_mut_slice.result.now c.in_ok-carried.carried.items c.args.many c.requires.many c.requires.there c.in_ok-carried.ensures.carried

pub returns-clause-seats : goal.returns-clause-seats
returns-clause-seats g c =
    let accounts = c.in_ok-accounts.accounts in
    let same = subst (λ l. HaveSameItems l c.end_all_carriers.new.rows) c.as_mut_slice.ensures.value c.in_ok-carried.ensures.same in
    let played = seats_played g.N.RunName.run c.in_ok-columns.columns.items c.args.many accounts.items c.requires.many c.in_ok-columns.ensures c.in_ok-accounts.ensures in
    subst (λ l. AreSeatsPlayed g.N.RunName.run l) (sym (lent_back accounts c.end_all_carriers.new.rows same.many)) (seats_same g.N.RunName.run accounts.items c.end_all_carriers.new.rows same played)

pub returns-clause-results : goal.returns-clause-results
returns-clause-results g c =
    let accounts = c.in_ok-accounts.accounts in
    let same = subst (λ l. HaveSameItems l c.end_all_carriers.new.rows) c.as_mut_slice.ensures.value c.in_ok-carried.ensures.same in
    let carried = c.in_ok-carried.carried.items in (
      carried,
      subst (λ (l : List (Vec (AccountValue g.row.K.Denot) Global)). All (λ ended. IsOfAccounts g.N.RunName.run l ended) carried) (sym (lent_back accounts c.end_all_carriers.new.rows same.many))
          (λ k d below. of_same g.N.RunName.run c.as_mut_slice.result.now c.end_all_carriers.new.rows _ c.in_ok-carried.ensures.same (c.in_ok-carried.ensures.carried k d below)),
      c.in_ok-results.ensures.results,
    )
