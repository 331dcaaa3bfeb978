use Rattle.std.proofs.Common.{◌∙◌, ap, arith}
use Rattle.strm_head_calls.specs.declared.setup.Setup.{Setup}
use Rattle.strm_shared.proofs.ArrivalLemmas.{comes_more, comes_then}
use Rattle.strm_shared.proofs.state.SharedState.admit_arrivals.Goals as goal

pub loop-at-preserved : goal.loop-at-preserved
loop-at-preserved g c =
    let was = c.loop-at.invariant in
    let landed = c.in-Entered.ensures.log in
    record {
      number = c.admit_next.ensures.number ∙ was.number;
      turns = c.admit_next.ensures.turns ∙ was.turns;
      room = λ has. c.admit_next.ensures.room (was.room has);
      comes = comes_more g.M.Kind.Kinds.means c.loop-at._at _ _ _ landed.0 was.comes landed.1;
    }

pub returns-in-HeldBack-clause-log : goal.returns-in-HeldBack-clause-log
returns-in-HeldBack-clause-log g c =
    let rests = c.in-HeldBack.ensures.log in
    record {
      many = c.loop-at._at;
      few = rw (← c.self.view_is) (omega (arith, ap (λ (s : Setup). s.ring) c.setup-at-end.ensures));
      comes = comes_then g.M.Kind.Kinds.means _ _ _ _ c.loop-at.invariant.comes rests.0;
      stops = λ line few. rests.1;
    }

pub returns-in-NoMem-clause-log : goal.returns-in-NoMem-clause-log
returns-in-NoMem-clause-log g c =
    let wants = c.in-NoMem.ensures.log in
    record {
      many = c.loop-at._at;
      few = rw (← c.self.view_is) (omega (arith, ap (λ (s : Setup). s.ring) c.setup-at-end.ensures));
      comes = comes_then g.M.Kind.Kinds.means _ _ _ _ c.loop-at.invariant.comes wants.0;
      stops = wants.1;
    }
