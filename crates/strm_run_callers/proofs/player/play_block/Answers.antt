use Rattle.std.proofs.Common.{◌++◌, sym, subst, ◌∙◌}
use Rattle.std.specs.Vec.Iter.{into_iter_items}
use Rattle.strm_msg.proofs.LoopLemmas.{rest_shorter}
use Rattle.strm_run_callers.specs.Play.{IsPlayer}
use Rattle.strm_run_callers.proofs.PlayLemmas.{none_left}
use Rattle.strm_run_callers.proofs.player.play_block.Goals as goal

pub make_call-requires-clause-next : goal.make_call-requires-clause-next
make_call-requires-clause-next g c κs within =
    let next = c.loop-one.invariant.next in (
      into_iter_items c.next.new.self ++ next.0,
      subst (λ l. IsPlayer g.N.RunName.run c.loop-one.caller.number (l ++ next.0) c.loop-one.caller.accounts.items) c.in-Some.ensures.steps.0 next.1,
    )

pub loop-one-preserved : goal.loop-one-preserved
loop-one-preserved g c =
    let run = g.N.RunName.run in
    let was = c.loop-one.invariant in
    let next = was.next in
    let is = c.in-Some.ensures.steps.0 in
    let made = c.in_ok-make_call.ensures.made in
    let same = c.in_ok-make_call.ensures.number in
    record {
      left = rest_shorter _ _ _ _ _ was.left is c.in-Some.ensures.steps.1;
      number = same ∙ was.number;
      next = (
        next.0,
        subst (λ n. IsPlayer run n (into_iter_items c.next.new.self ++ next.0) c.make_call.new.caller.accounts.items) (sym same)
            (made (into_iter_items c.next.new.self ++ next.0) (subst (λ l. IsPlayer run c.loop-one.caller.number (l ++ next.0) c.loop-one.caller.accounts.items) is next.1)),
      );
      others = λ others had.
          subst (λ n. IsPlayer run n (into_iter_items c.next.new.self ++ others) c.make_call.new.caller.accounts.items) was.number
          (made (into_iter_items c.next.new.self ++ others)
          (subst (λ l. IsPlayer run c.loop-one.caller.number (l ++ others) c.loop-one.caller.accounts.items) is
          (subst (λ n. IsPlayer run n (into_iter_items c.loop-one.one-iterator ++ others) c.loop-one.caller.accounts.items) (sym was.number) (was.others others had))));
    }

pub returns-clause-made : goal.returns-clause-made
returns-clause-made g c = λ others had.
    subst (λ left. IsPlayer g.N.RunName.run c.args.caller.now.number (left ++ others) c.loop-one.caller.accounts.items) (none_left _ _ c.loop-one.invariant.left c.in-None.ensures.steps.0) (c.loop-one.invariant.others others had)
