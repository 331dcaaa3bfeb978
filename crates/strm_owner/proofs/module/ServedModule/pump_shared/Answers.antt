use Rattle.std.proofs.Common.{refl, ◌∙◌}
use Rattle.strm_owner.specs.Serves.{Calls}
use Rattle.strm_owner.proofs.RoundLemmas.{one_more, idle, used_up}
use Rattle.strm_owner.proofs.module.ServedModule.pump_shared.Goals as goal

pub loop-done-init : goal.loop-done-init
loop-done-init g c = record { rounds = (refl, refl); number = refl; caller = refl }

pub loop-done-preserved : goal.loop-done-preserved
loop-done-preserved g c = record {
  rounds = one_more g.O.Owner.Asks g.O.Owner.Hears (Calls g.row.M-Kind.Denot c.args.self.now) c.loop-done.done c.args.owner.now c.args.seat.now c.loop-done.owner c.loop-done.seat c.hear.new.self c.call-told.new.seat c.loop-done.invariant.rounds (record {
    side = c.in-Some.side;
    call = c.in-Some.call;
    waiting = c.next_call.new.self;
    told = c.call-told.result;
    asks = c.in-Some.ensures;
    serves = c.call-told.ensures.calls;
    hears = c.hear.ensures;
  });
  number = c.call-told.ensures.number ∙ c.loop-done.invariant.number;
  caller = c.call-told.ensures.caller ∙ c.loop-done.invariant.caller;
}

pub returns-in_default : goal.returns-in_default
returns-in_default g c =
    idle g.O.Owner.Asks g.O.Owner.Hears (Calls g.row.M-Kind.Denot c.args.self.now) c.args.budget c.loop-done.done c.args.owner.now c.args.seat.now c.loop-done.owner c.loop-done.seat c.next_call.new.self c.loop-done.invariant.rounds c.loop-done.auto.done-end c.in_default.ensures

pub returns : goal.returns
returns g c =
    used_up g.O.Owner.Asks g.O.Owner.Hears (Calls g.row.M-Kind.Denot c.args.self.now) c.args.budget c.loop-done.done c.args.owner.now c.args.seat.now c.loop-done.owner c.loop-done.seat c.loop-done.invariant.rounds c.loop-done.auto.done-end c.loop-done-test.false
