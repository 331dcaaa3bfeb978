use Rattle.std.proofs.Common.{rules, subst, slice_index_or}
use Rattle.strm_run_threads.specs.Chunks.{Changes}
use Rattle.strm_run_threads.proofs.chunks.each_in_order.Goals as goal

-- the work was done with each, by `on_one`
pub returns : goal.returns
returns g c =
    record {
      many = search rules;
      each = λ k d below.
          let at = (c.for_each_mut.ensures k d below).1 in
          let done : Changes g.F.Fn c.args.work.now at.argument.now at.after_call.now = search rules in
          subst (λ y. Changes g.F.Fn c.args.work.now (slice_index_or c.args.all.now k d) y) at.left
          (subst (λ x. Changes g.F.Fn c.args.work.now x at.after_call.now) at.argument_is done);
    }
