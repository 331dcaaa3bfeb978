use Rattle.std.proofs.Common.{refl}
use Rattle.strm_shared.proofs.TurnLemmas.{none_in_turn}
use Rattle.strm_shared.proofs.state.SharedState.new.Goals as goal

pub invariant_of-result : goal.invariant_of-result
invariant_of-result g c = rw (c.in_ok-turns.ensures, c.requires.log, c.requires.inlet) (record {
  in_turn = λ so. none_in_turn (g.N.StreamRunName.calls c.args.number) c.args.callers;
  came_in = refl;
  of = refl;
  fed = refl;
})
