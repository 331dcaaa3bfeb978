use Rattle.std.proofs.Common.{◌≡◌, ◌+◌, append_assoc, ◌∷◌, suc, Some, length, ap, subst, sym, ◌∙◌, arith}
use Rattle.std.proofs.lemmas.List.{length_push}
use Rattle.strm_shared_entry.specs.Own.{entry_at}
use Rattle.strm_msg.proofs.LoopLemmas.{rest_shorter}
use Rattle.strm_shared_ended.proofs.HoldingLemmas.{first_more}
use Rattle.strm_shared_ended.proofs.holding.holds_each.Goals as goal

pub loop-own-preserved : goal.loop-own-preserved
loop-own-preserved g c =
    let was = c.loop-own.invariant in
    let next = c.in-Some.ensures.steps.0 in
    let counted = was.counted in
    let long = length_push c.loop-own.yielded c.in-Some.own in
    let number : c.loop-own.number + 1 ≡ suc (length c.loop-own.yielded) = omega arith in
    record {
      left = rest_shorter _ _ _ _ _ was.left next c.in-Some.ensures.steps.1;
      rest = rw (append_assoc, ← next) was.rest;
      counted = omega arith;
      held = first_more c.args.ended.now.history c.args.receipts.caller c.loop-own.yielded c.in-Some.own was.held (subst (λ n. entry_at c.args.receipts.caller n c.args.ended.now.history ≡ Some c.in-Some.own) number (c.has.ensures.0 c.if-not-has.false ∙ ap (λ x. Some x) c.entry.ensures));
    }
