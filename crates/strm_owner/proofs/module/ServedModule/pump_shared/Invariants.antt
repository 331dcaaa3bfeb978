use Rattle.std.proofs.Common.{◌≡◌}
use Rattle.strm_owner.specs.Rounds.{Rounds}
use Rattle.strm_owner.specs.Serves.{Calls}
use Rattle.strm_owner.proofs.module.ServedModule.pump_shared.Given as goal

abbrev pub invariant-loop-done : goal.invariant-loop-done
invariant-loop-done g l = record {
  rounds : Rounds g.O.Owner.Asks g.O.Owner.Hears (Calls g.row.M-Kind.Denot l.fn.self) l.done l.fn.owner l.fn.seat l.owner l.seat;
  number : l.seat.number ≡ l.fn.seat.number;
  caller : l.seat.caller ≡ l.fn.seat.caller;
}
