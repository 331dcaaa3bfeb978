use Rattle.std.proofs.Common.{◌≡◌, ◌++◌, List, length, sym, ◌∙◌, ap, subst}
use Rattle.std.specs.Prelude.{IfSome}
use Rattle.std.proofs.lemmas.List.Elements.{same_from_all_zip}
use Rattle.rtrb.specs.Ring.{received}
use Rattle.strm_shared_entry.specs.Entry.{Entry}
use Rattle.strm_shared_log.specs.Piece.{entries_of, first_setup, AreCounts, IsHistory}
use Rattle.strm_shared_log.proofs.PieceLemmas.{entries_more, same_setup, setup_more}
use Rattle.strm_shared_log.proofs.drain.Drain.take.Goals as goal

pub invariant_of-self-2 : goal.invariant_of-self-2
invariant_of-self-2 g c =
    let ring = c.is_empty.new.self in
    let part = c.pop_known-entries.result in
    let looked : received ring ≡ received c.self.inside.ring = c.is_empty.ensures.looked.1 in
    let came : entries_of (received c.pop_known-entries.new.self) ≡ entries_of (received c.self.inside.ring) ++ part.entries.items =
    ap (λ l. entries_of l) c.pop_known-entries.ensures.received.0
    ∙ entries_more (received ring) part
    ∙ ap (λ l. entries_of l ++ part.entries.items) looked in
    let counted = c.count_calls.ensures.counts (entries_of (received c.self.inside.ring)) c.self.invariant in
    subst (λ (l : List (Entry _)). AreCounts c.count_calls.new.counts.items l) (sym came) (rw c.as_slice.ensures.value at counted)

pub returns-clause-next : goal.returns-clause-next
returns-clause-next g c =
    let ring = c.is_empty.new.self in
    let part = c.pop_known-entries.result in
    let looked : received ring ≡ received c.self.inside.ring = c.is_empty.ensures.looked.1 in
    let popped = c.pop_known-entries.ensures.received.0 in
    let allowed = c.pop_known-entries.ensures.allowed in
    let more = entries_more (received ring) part in
    let cloned : c.in_ok-before.before.items ≡ c.self.inside.counts.items = same_from_all_zip _ _ _ c.in_ok-before.ensures.cases.0 (λ x y is. is) in
    rw (← c.self.view_is, c.new.ensures)
    (record {
      callers = c.count_calls.ensures.many;
      setup = ap (λ l. first_setup l) popped ∙ setup_more (received ring) part allowed.setup;
      same_setup = subst (λ l. IfSome (first_setup l) (λ s. s ≡ part.setup)) looked (same_setup (received ring) part allowed.setup);
      history = ap (λ l. entries_of l) popped ∙ more ∙ ap (λ l. entries_of l ++ part.entries.items) looked;
      legal = subst (λ (l : List (Entry _)). IsHistory g.K.Kinds.means part.setup l) (sym (ap (λ l. entries_of l) popped ∙ more)) allowed.legal;
      many = ap (λ l. length l) cloned;
      before = rw cloned c.self.invariant;
    })
