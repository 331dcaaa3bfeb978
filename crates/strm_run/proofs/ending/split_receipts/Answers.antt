use Rattle.std.proofs.Common.{◌≡◌, append_assoc, append-nil, ◌++◌, ap, subst, sym, ◌∙◌}
use Rattle.std.proofs.lemmas.List.{nil_from_length}
use Rattle.std.specs.Vec.Iter.{into_iter_items}
use Rattle.strm_run.specs.Inside.Ending.{seats_of, AreOf, AreParted}
use Rattle.strm_msg.proofs.LoopLemmas.{rest_shorter}
use Rattle.strm_run.proofs.EndingLemmas.{parted_more, seats_more}
use Rattle.strm_run.proofs.ending.split_receipts.Goals as goal

pub loop-account-preserved : goal.loop-account-preserved
loop-account-preserved g c =
    let was = c.loop-account.invariant in
    let next = c.in-Some.ensures.steps.0 in
    let account = c.in-Some.account in
    let parts = c.into_parts-seat.ensures in
    let of : AreOf g.N.RunName.run account c.into_parts-seat.result.1 = record { caller_is = parts.caller; entries_are = parts.entries; has = parts.receipts } in
    record {
      left = rest_shorter _ _ _ _ _ was.left next c.in-Some.ensures.steps.1;
      rest = rw (append_assoc, ← next) was.rest;
      seats = seats_more c.loop-account.yielded account c.loop-account.seats.items c.push.new.self.items c.into_parts-seat.result.0 was.seats parts.seat c.in_ok-push.ensures.items;
      parted = parted_more g.N.RunName.run c.loop-account.yielded c.loop-account.receipts.items c.push-in-loop-account.new.self.items account c.into_parts-seat.result.1 c.in_ok-push-2.ensures.items of was.parted;
    }

pub returns-clause-seats : goal.returns-clause-seats
returns-clause-seats g c =
    let was = c.loop-account.invariant in
    let none = nil_from_length (into_iter_items c.loop-account.account-iterator) (sym was.left ∙ c.in-None.ensures.steps.0) in
    let whole : c.loop-account.yielded ≡ c.args.accounts.items = sym (append-nil c.loop-account.yielded) ∙ ap (λ l. c.loop-account.yielded ++ l) (sym none) ∙ was.rest in
    was.seats ∙ ap (λ l. seats_of l) whole

pub returns-clause-receipts : goal.returns-clause-receipts
returns-clause-receipts g c =
    let was = c.loop-account.invariant in
    let none = nil_from_length (into_iter_items c.loop-account.account-iterator) (sym was.left ∙ c.in-None.ensures.steps.0) in
    let whole : c.loop-account.yielded ≡ c.args.accounts.items = sym (append-nil c.loop-account.yielded) ∙ ap (λ l. c.loop-account.yielded ++ l) (sym none) ∙ was.rest in
    subst (λ l. AreParted g.N.RunName.run l c.loop-account.receipts.items) whole was.parted
