use Rattle.strm_owner.specs.Rounds.{Rounds}
use Rattle.strm_owner.specs.Serves.{Serves}
use Rattle.strm_owner.proofs.module.ServedModule.pump.Given as goal

abbrev pub invariant-loop-done : goal.invariant-loop-done
invariant-loop-done g l = Rounds g.O.Owner.Asks g.O.Owner.Hears (Serves g.M.Kind.Kinds.means l.fn.self) l.done l.fn.owner l.fn.stream l.owner l.stream
