use Rattle.std.proofs.Common.{append_assoc, ◌∷◌}
use Rattle.std.proofs.lemmas.List.Elements.{All-push}
use Rattle.strm_shared_ended.specs.declared.holding.Receipts.{Receipts}
use Rattle.strm_shared_ended.specs.Ended.{AreHeld}
use Rattle.strm_msg.proofs.LoopLemmas.{rest_shorter}
use Rattle.strm_shared_ended.proofs.holding.holds_all.Goals as goal

pub loop-mine-preserved : goal.loop-mine-preserved
loop-mine-preserved g c =
    let was = c.loop-mine.invariant in
    let next = c.in-Some.ensures.steps.0 in
    record {
      left = rest_shorter _ _ _ _ _ was.left next c.in-Some.ensures.steps.1;
      rest = rw (append_assoc, ← next) was.rest;
      held = All-push (λ (mine : Receipts g.row.M-Kind.Denot). AreHeld c.args.ended.now.history mine) c.loop-mine.yielded c.in-Some.mine was.held (c.holds_each.ensures.0 c.if-not-holds_each.false);
    }
