use Rattle.std.proofs.Common.{◌∙◌, IfOk, ap, sym, subst}
use Rattle.strm_shared.specs.Ending.{SharedValue}
use Rattle.strm_run_callers.specs.Transcript.{IsLog}
use Rattle.strm_run.specs.Inside.Ending.{feed_of_result, overrun_of, seats_of, HasTaken, HavePlayed, IsFinishedStream}
use Rattle.strm_run.proofs.EndingLemmas.{has_left, log_holds, log_left, seats_have_played, taken_left}
use Rattle.strm_run.proofs.ending.end_one.Goals as goal

-- the stream is the one that was due, the receipts are those of its accounts, and the feed is its own
pub returns-clause-left : goal.returns-clause-left
returns-clause-left g c =
    let run = g.N.RunName.run in
    let parts = c.into_parts-shared in
    let seats = c.in_ok-seats.seats.items in
    let due = subst (λ (s : SharedValue). IsFinishedStream run s c.args.due.accounts) (sym parts.ensures.stream) parts.ensures.due in
    let played = seats_have_played run parts.result.0.number c.args.due.accounts seats (c.in_ok-seats.ensures.seats ∙ ap (λ l. seats_of l) parts.ensures.accounts) due.played in
    has_left g.M.Kind.Kinds.means run c.args.due c.log_or_fault.result
    (subst (λ (s : SharedValue). IfOk c.log_or_fault.result (λ log. IsLog g.M.Kind.Kinds.means run s.number s.setup log)) parts.ensures.stream
    (log_left g.M.Kind.Kinds.means run parts.result.0 seats c.in_ok-seats.receipts.items c.feed_parts-feed.result.1 c.end.result c.log_or_fault.result due.stream played c.log_or_fault.ensures c.end.ensures.legal c.end.ensures.accounts c.end.ensures.counts c.end.ensures.first c.end.ensures.seated))
    (log_holds run parts.result.0.number c.args.due.accounts parts.result.1.items seats c.in_ok-seats.receipts.items c.feed_parts-feed.result.1 c.end.result c.log_or_fault.result parts.ensures.accounts c.in_ok-seats.ensures.seats c.in_ok-seats.ensures.receipts (subst (λ l. HavePlayed run parts.result.0.number l) (sym parts.ensures.accounts) due.played) c.log_or_fault.ensures c.end.ensures.shown c.end.ensures.counts)
    (subst (λ (s : SharedValue). IfOk c.log_or_fault.result (λ log. HasTaken s c.args.due.fed log)) parts.ensures.stream
    (taken_left parts.result.0 c.args.due.fed c.in_ok-seats.receipts.items c.feed_parts-feed.result.0 c.feed_parts-feed.result.1 c.end.result c.log_or_fault.result (c.feed_parts-feed.ensures.feed ∙ ap (λ r. feed_of_result r) parts.ensures.fed) (c.feed_parts-feed.ensures.overrun ∙ ap (λ r. overrun_of r) parts.ensures.fed) c.log_or_fault.ensures c.end.ensures.arrived c.end.ensures.fed))
