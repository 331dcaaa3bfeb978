use Rattle.std.proofs.Common.{sym, subst}
use Rattle.strm_run_callers.specs.Play.{IsPlayer}
use Rattle.strm_run_callers.proofs.player.Player.step.Goals as goal

pub after_step-requires-2-after_bounds : goal.after_step-requires-2-after_bounds
after_step-requires-2-after_bounds g c κs within =
    let run = g.N.RunName.run in
    let left = c.pop_front.new.self in
    let before = subst (λ calls. IsPlayer run c.self.inside.caller.number calls c.self.inside.caller.accounts.items) c.in-Some.ensures c.self.invariant in
    subst (λ n. IsPlayer run n left c.make_call.new.caller.accounts.items) (sym c.in_ok-make_call.ensures.number) (c.in_ok-make_call.ensures.made left before)
