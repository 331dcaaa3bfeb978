use Rattle.std.proofs.Common.{rules, ◌<◌, List, All, Vec, Global, length, ap, arith, subst, sym, ◌∙◌}
use Rattle.strm_run_callers.specs.Account.{AccountValue}
use Rattle.strm_run_callers.specs.Feeding.{FeedResultValue}
use Rattle.strm_run.specs.Inside.Ending.{AddsCarried, IsOfAccounts}
use Rattle.strm_run.proofs.EndingLemmas.{carried_more, same_items, same_more}
use Rattle.strm_run.proofs.ending.end_all_carriers.Goals as goal

-- the row is as it was, and what its accounts have carried is added
pub loop-row-preserved : goal.loop-row-preserved
loop-row-preserved g c =
    let was = c.loop-row.invariant in
    let row = c.row-item.result in
    let value = c.as_mut_slice.ensures.value ∙ ap (λ (v : Vec (AccountValue g.row.K.Denot) Global). v.items) (sym c.row-item.is) in
    let inside : c.loop-row.row-index < length c.loop-row.rows = search rules in
    record {
      same = same_more c.args.rows.now c.loop-row.rows c.loop-row.row-index row c.end_carriers.new.accounts was.same c.row-item.is (c.in_ok-end_carriers.ensures.same ∙ value);
      carried = carried_more g.N.RunName.run c.args.rows.now c.loop-row.rows c.loop-row.row-index row c.loop-row.carried.items c.end_carriers.new.carried.items was.same inside c.row-item.is was.carried (subst (λ l. AddsCarried g.N.RunName.run l c.loop-row.carried.items c.end_carriers.new.carried.items) value c.in_ok-end_carriers.ensures.carried);
    }

pub loop-row-init : goal.loop-row-init
loop-row-init g c = record {
  same = same_items c.args.rows.now;
  carried = subst (λ (l : List FeedResultValue). All (λ ended. IsOfAccounts g.N.RunName.run c.args.rows.now ended) l) (sym c.new-carried.ensures.items) (λ k d below. absurd (omega arith));
}
