use Rattle.std.proofs.Common.{refl}
use Rattle.strm_owner.specs.Serves.{Serves}
use Rattle.strm_owner.proofs.RoundLemmas.{one_more, idle, used_up}
use Rattle.strm_owner.proofs.module.ServedModule.pump.Goals as goal

pub loop-done-init : goal.loop-done-init
loop-done-init g c = (refl, refl)

pub loop-done-preserved : goal.loop-done-preserved
loop-done-preserved g c =
    one_more g.O.Owner.Asks g.O.Owner.Hears (Serves g.M.Kind.Kinds.means c.args.self.now) c.loop-done.done c.args.owner.now c.args.stream.now c.loop-done.owner c.loop-done.stream c.hear.new.self c.serve-told.new.stream c.loop-done.invariant (record {
      side = c.in-Some.side;
      call = c.in-Some.call;
      waiting = c.next_call.new.self;
      told = c.serve-told.result;
      asks = c.in-Some.ensures;
      serves = c.serve-told.ensures;
      hears = c.hear.ensures;
    })

pub returns-in_default : goal.returns-in_default
returns-in_default g c =
    idle g.O.Owner.Asks g.O.Owner.Hears (Serves g.M.Kind.Kinds.means c.args.self.now) c.args.budget c.loop-done.done c.args.owner.now c.args.stream.now c.loop-done.owner c.loop-done.stream c.next_call.new.self c.loop-done.invariant c.loop-done.auto.done-end c.in_default.ensures

pub returns : goal.returns
returns g c =
    used_up g.O.Owner.Asks g.O.Owner.Hears (Serves g.M.Kind.Kinds.means c.args.self.now) c.args.budget c.loop-done.done c.args.owner.now c.args.stream.now c.loop-done.owner c.loop-done.stream c.loop-done.invariant c.loop-done.auto.done-end c.loop-done-test.false
