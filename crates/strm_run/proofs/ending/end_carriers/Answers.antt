use Rattle.std.proofs.Common.{rules, ◌≡◌, ◌<◌, length, slice_set, ap, subst, sym, ◌∙◌}
use Rattle.std.proofs.lemmas.List.{set-get_or}
use Rattle.strm_run_callers.specs.Carrying.{IsCarried}
use Rattle.strm_run.specs.Inside.Ending.{IsOfAccount}
use Rattle.strm_run.proofs.EndingLemmas.{adds_more}
use Rattle.strm_run.proofs.ending.end_carriers.Goals as goal
use Rattle.strm_run.proofs.ending.end_carriers.Goals.{in-Some+in_ok-push, in_default}

-- the account is as it was, and what it has carried is added
pub loop-account-preserved : goal.loop-account-preserved
loop-account-preserved g c =
    let was = c.loop-account.invariant in
    let accounts = c.loop-account.accounts in
    let i = c.loop-account.account-index in
    let account = c.account-item.result in
    let back : slice_set accounts i c.end_carrier.new.self ≡ c.args.accounts.now = ap (λ a. slice_set accounts i a) c.end_carrier.ensures.same ∙ set-get_or accounts i account ∙ was.same in
    let inside : i < length accounts = search rules in
    elim c.match-end_carrier.branch [
      | in-Some+in_ok-push w ↦ record {
        same = back;
        carried = rw w.carried-is (adds_more g.N.RunName.run c.args.accounts.now c.args.carried.now.items c.loop-account.carried.items w.push.new.self.items w.in-Some.ended was.carried w.in_ok-push.ensures.items (subst (λ l. IsOfAccount g.N.RunName.run l w.in-Some.ended) was.same (i, account, inside, c.account-item.is, subst (λ a. IsCarried g.N.RunName.run a w.in-Some.ended) (sym c.account-item.is) w.in-Some.ensures.carried)));
      }
      | in_default w ↦ record { same = back; carried = rw w.carried-is was.carried }
    ]
