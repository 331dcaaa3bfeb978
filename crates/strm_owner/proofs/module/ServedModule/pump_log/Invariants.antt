use Rattle.strm_owner.specs.Rounds.{Rounds}
use Rattle.strm_owner.specs.Serves.{Logs, OnlyServes}
use Rattle.strm_owner.proofs.module.ServedModule.pump_log.Given as goal

abbrev pub invariant-loop-done : goal.invariant-loop-done
invariant-loop-done g l = record {
  rounds : Rounds g.O.Owner.Asks g.O.Owner.Hears (Logs g.M.Kind.Kinds.means l.fn.self l.fn.caller) l.done l.fn.owner l.fn.log l.owner l.log;
  only : OnlyServes l.fn.self l.fn.caller l.fn.log.history l.log.history;
}
