use Rattle.std.proofs.Common.{◌≡◌, ◌+◌, ◌++◌, ◌∷◌, [], List, suc, take, sym, ◌∙◌, ap, subst, append_assoc, arith, take_all}
use Rattle.strm_shared_entry.specs.Entry.{Entry}
use Rattle.strm_shared_log.specs.Piece.{AreCounts}
use Rattle.strm_shared_log.proofs.PieceLemmas.{counted_length, counted_more, take_next}
use Rattle.strm_shared_log.proofs.drain.count_calls.Goals as goal

pub loop-at-preserved : goal.loop-at-preserved
loop-at-preserved g c =
    let was = c.loop-at.invariant in
    let entries = c.args.entries.now in
    let at = c.loop-at.at in
    let entry = c.index-entries-at.result in
    let next : at + 1 ≡ suc at = omega arith in
    let taken = take_next entries at entry c.loop-at-test.true (sym c.index-entries-at.is) in
    rw (c.count_call.ensures, next)
    (record {
      many = counted_length c.loop-at.counts.items c.who.result ∙ was.many;
      counts = λ before had. counted_more c.loop-at.counts.items (before ++ take at entries) (before ++ take (suc at) entries) entry c.who.result (sym c.who.ensures) (ap (λ l. before ++ l) taken ∙ sym (append_assoc before (take at entries) (entry ∷ []))) (was.counts before had);
    })

pub returns-clause-counts : goal.returns-clause-counts
returns-clause-counts g c = λ before had.
    let all : take c.loop-at.at c.args.entries.now ≡ c.args.entries.now = take_all c.loop-at.at c.args.entries.now c.loop-at-test.false in
    subst (λ (l : List (Entry _)). AreCounts c.loop-at.counts.items (before ++ l)) all (c.loop-at.invariant.counts before had)
