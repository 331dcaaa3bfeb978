use Rattle.std.proofs.Common.{refl}
use Rattle.strm_owner.specs.Serves.{Logs}
use Rattle.strm_owner.proofs.RoundLemmas.{one_more, idle, used_up}
use Rattle.strm_owner.proofs.ServesLemmas.{only_none, only_then}
use Rattle.strm_owner.proofs.module.ServedModule.pump_log.Goals as goal

pub loop-done-init : goal.loop-done-init
loop-done-init g c = record {
  rounds = (refl, refl);
  only = only_none c.args.self.now c.args.caller c.args.log.now.history c.args.log.now.history refl;
}

pub loop-done-preserved : goal.loop-done-preserved
loop-done-preserved g c = record {
  rounds = one_more g.O.Owner.Asks g.O.Owner.Hears (Logs g.M.Kind.Kinds.means c.args.self.now c.args.caller) c.loop-done.done c.args.owner.now c.args.log.now c.loop-done.owner c.loop-done.log c.hear.new.self c.log-told.new.log c.loop-done.invariant.rounds (record {
    side = c.in-Some.side;
    call = c.in-Some.call;
    waiting = c.next_call.new.self;
    told = c.log-told.result;
    asks = c.in-Some.ensures;
    serves = c.log-told.ensures.told;
    hears = c.hear.ensures;
  });
  only = only_then c.args.self.now c.args.caller c.args.log.now.history c.loop-done.log.history c.log-told.new.log.history c.loop-done.invariant.only c.log-told.ensures.only;
}

pub returns-in_default : goal.returns-in_default
returns-in_default g c = record {
  rounds = idle g.O.Owner.Asks g.O.Owner.Hears (Logs g.M.Kind.Kinds.means c.args.self.now c.args.caller) c.args.budget c.loop-done.done c.args.owner.now c.args.log.now c.loop-done.owner c.loop-done.log c.next_call.new.self c.loop-done.invariant.rounds c.loop-done.auto.done-end c.in_default.ensures;
  only = c.loop-done.invariant.only;
}

pub returns : goal.returns
returns g c = record {
  rounds = used_up g.O.Owner.Asks g.O.Owner.Hears (Logs g.M.Kind.Kinds.means c.args.self.now c.args.caller) c.args.budget c.loop-done.done c.args.owner.now c.args.log.now c.loop-done.owner c.loop-done.log c.loop-done.invariant.rounds c.loop-done.auto.done-end c.loop-done-test.false;
  only = c.loop-done.invariant.only;
}
