use Rattle.std.proofs.Common.{◌≡◌, append_assoc, length, Vec, Global}
use Rattle.strm_run_input.proofs.EachLemmas.{of_first, of_others}
use Rattle.strm_msg.proofs.LoopLemmas.{rest_shorter}
use Rattle.strm_run.proofs.TableLemmas.{transposed_more}
use Rattle.strm_run.proofs.table.transposed.Goals as goal

pub loop-column-preserved : goal.loop-column-preserved
loop-column-preserved g c =
    let was = c.loop-column.invariant in
    let next = c.in-Some.ensures.steps.0 in
    let high = of_first (λ (column : Vec g.row.T.Denot Global). length column.items ≡ c.args.rows) _ _ _ next was.high in
    record {
      left = rest_shorter _ _ _ _ _ was.left next c.in-Some.ensures.steps.1;
      rest = rw (append_assoc, ← next) was.rest;
      high = of_others (λ (column : Vec g.row.T.Denot Global). length column.items ≡ c.args.rows) _ _ _ next was.high;
      rows = transposed_more _ _ _ _ _ was.rows high c.in-Ok.ensures;
    }
