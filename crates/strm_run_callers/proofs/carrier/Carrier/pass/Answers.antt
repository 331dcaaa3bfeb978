use Rattle.std.proofs.Common.{◌≡◌, ◌+◌, ◌<◌, ◌≤◌, ◌^◌, true, length, All, subst, sym, arith}
use Rattle.strm_msg.specs.Message.{Msg}
use Rattle.strm_msg.specs.Kind.{is_from_line}
use Rattle.strm_link.specs.Rule.{act_of}
use Rattle.strm_run_callers.specs.Carrying.{CarrierValue}
use Rattle.strm_run_callers.proofs.CarryLemmas.{carried_one, leaves_few, lines_leave}
use Rattle.strm_run_callers.proofs.carrier.Carrier.pass.Goals as goal

pub offer_all-requires-clause-lines : goal.offer_all-requires-clause-lines
offer_all-requires-clause-lines g c =
    subst (λ l. All (λ (m : Msg). is_from_line m.kind ≡ true) l) (sym c.in-Ok.ensures.out) (lines_leave (act_of c.self.inside.link.rule) c.args.m c.self.inside.link.held c.requires.line c.self.invariant.held)

pub offer_all-requires-clause-few : goal.offer_all-requires-clause-few
offer_all-requires-clause-few g c =
    let most = subst (λ l. length l ≤ 3) (sym c.in-Ok.ensures.out) (leaves_few (act_of c.self.inside.link.rule) c.args.m c.self.inside.link.held) in
    let few = subst (λ (v : CarrierValue). v.overrun + 3 < 2 ^ 64) (sym c.self.view_is) c.requires.few in
    omega (arith, most, few)

pub returns-in-Ok : goal.returns-in-Ok
returns-in-Ok g c =
    carried_one c.args.self.now _ _ c.pass.new.self c.args.m c.in-Ok.passed.items c.self.view_is c.in-Ok.ensures.out c.in-Ok.ensures.ok c.offer_all.ensures.link c.offer_all.ensures.offered
