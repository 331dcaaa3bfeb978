use Rattle.strm_shared_log.proofs.SerialLemmas.{legal_accounts}
use Rattle.strm_shared.proofs.TurnLemmas.{counts_agree, if_ok_more, no_memory_receipt, no_memory_seats, on_ok, same_fault}
use Rattle.strm_shared.proofs.shared.Shared.end.Goals as goal

pub returns-in-Err-clause-seats : goal.returns-in-Err-clause-seats
returns-in-Err-clause-seats g c =
    let seats = rw c.as_slice.ensures.value at c.in-Err.ensures.seats in
    rw (← c.self.view_is) ((λ is. seats.0 (same_fault _ _ is)), (λ none. same_fault _ _ (seats.1 none)))

pub returns-in-Err-clause-no_receipt : goal.returns-in-Err-clause-no_receipt
returns-in-Err-clause-no_receipt g c =
    let no_receipt = rw c.as_slice.ensures.value at c.in-Err.ensures.no_receipt in
    rw (← c.self.view_is) (λ is. let says = no_receipt (same_fault _ _ is) in (says.0, says.1.1, says.2))

pub returns-in-Err-clause-memory : goal.returns-in-Err-clause-memory
returns-in-Err-clause-memory g c = λ is. absurd (c.in-Err.ensures.memory (same_fault _ _ is))

pub returns-in-Err-clause-drained : goal.returns-in-Err-clause-drained
returns-in-Err-clause-drained g c =
    let drained = rw c.as_slice.ensures.value at c.in-Err.ensures.drained in
    λ is. drained (same_fault _ _ is)

pub returns-clause-legal : goal.returns-clause-legal
returns-clause-legal g c = rw (← c.self.view_is, ← c.in-Ok.ensures.of.1) c.left_of.ensures.legal

pub returns-clause-accounts : goal.returns-clause-accounts
returns-clause-accounts g c =
    if_ok_more _ _ c.left_of.result (λ ended legal. legal_accounts g.M.Kind.Kinds.means _ _ _ legal) (returns-clause-legal g c)

pub returns-clause-callers : goal.returns-clause-callers
returns-clause-callers g c =
    rw (← c.self.view_is, ← c.in-Ok.ensures.agree.1) (if_ok_more _ _ c.left_of.result (λ ended are. are.seated) c.left_of.ensures.in_turn)

pub returns-clause-counts : goal.returns-clause-counts
returns-clause-counts g c =
    rw (← c.as_slice.ensures.value)
    (if_ok_more _ _ c.left_of.result (λ ended are. counts_agree _ _ _ _ are c.in-Ok.ensures.agree.2) c.left_of.ensures.in_turn)

pub returns-clause-first : goal.returns-clause-first
returns-clause-first g c =
    rw (← c.self.view_is, ← c.in-Ok.ensures.of.0) (if_ok_more _ _ c.left_of.result (λ ended are. are.first) c.left_of.ensures.in_turn)

pub returns-clause-arrived : goal.returns-clause-arrived
returns-clause-arrived g c = c.left_of.ensures.arrived

pub returns-clause-fed : goal.returns-clause-fed
returns-clause-fed g c = on_ok c.left_of.result (rw (← c.self.view_is) c.in-Ok.ensures.fed)

pub returns-clause-seated : goal.returns-clause-seated
returns-clause-seated g c =
    on_ok c.left_of.result (rw (← c.self.view_is, ← c.as_slice.ensures.value) c.in-Ok.ensures.seated)

pub returns-clause-shown : goal.returns-clause-shown
returns-clause-shown g c = on_ok c.left_of.result (rw (← c.as_slice.ensures.value) c.in-Ok.ensures.shown)

pub returns-clause-seats : goal.returns-clause-seats
returns-clause-seats g c =
    let seated = rw c.as_slice.ensures.value at c.in-Ok.ensures.seated in
    rw (← c.self.view_is)
    ((λ is. no_memory_seats c.left_of.result c.left_of.ensures.memory is), (λ none. absurd (none seated)))

pub returns-clause-no_receipt : goal.returns-clause-no_receipt
returns-clause-no_receipt g c = λ is. no_memory_receipt c.left_of.result c.left_of.ensures.memory is

pub returns-clause-memory : goal.returns-clause-memory
returns-clause-memory g c = λ is. rw (← c.as_slice.ensures.value) c.in-Ok.ensures.shown

pub returns-clause-drained : goal.returns-clause-drained
returns-clause-drained g c = λ is. rw (← c.as_slice.ensures.value) c.in-Ok.ensures.shown
