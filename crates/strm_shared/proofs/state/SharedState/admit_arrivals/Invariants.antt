use Rattle.std.proofs.Common.{◌≡◌}
use Rattle.strm_shared_log.specs.Log.{LeavesRoom}
use Rattle.strm_shared.specs.Arrivals.{ComesIn}
use Rattle.strm_shared.proofs.state.SharedState.admit_arrivals.Given as goal

-- a message came in at each turn so far, and nothing else happened
abbrev pub invariant-loop-at : goal.invariant-loop-at
invariant-loop-at g l = record {
  number : l.self.number ≡ l.fn.self.number;
  turns : l.self.turns ≡ l.fn.self.turns;
  room : LeavesRoom l.fn.self.log l.self.log;
  comes : ComesIn g.M.Kind.Kinds.means l._at l.fn.self.log l.self.log;
}
