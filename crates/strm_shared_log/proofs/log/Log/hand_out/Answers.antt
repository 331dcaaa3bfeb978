use Rattle.std.proofs.Common.{◌≡◌, ◌∙◌, ◌++◌, ap, sym, subst, append-nil, refl, List, true≢false}
use Rattle.rtrb.specs.Ring.{sent}
use Rattle.strm_shared_entry.specs.Entry.{Entry}
use Rattle.strm_shared_log.specs.History.{Legal}
use Rattle.strm_shared_log.specs.Opened.{opened}
use Rattle.strm_shared_log.specs.Outlet.{gone_of, HasSetup}
use Rattle.strm_shared_log.specs.Piece.{entries_of}
use Rattle.strm_shared_log.proofs.PieceLemmas.{entries_more, setups_more}
use Rattle.strm_shared_log.proofs.log.Log.hand_out.Goals as goal

-- what was kept is behind what was handed out before
pub invariant_of-self-2 : goal.invariant_of-self-2
invariant_of-self-2 g c =
    let means = g.M.Kind.Kinds.means in
    let was = c.self.inside in
    let outlet = c.in-Some.outlet in
    let looked : sent c.is_full.new.self ≡ sent outlet = c.is_full.ensures.looked.1 in
    let handed = c.push_reserved.ensures.sent.0 in
    let taken = c.replace-entries.result in
    let more : entries_of (sent c.push_reserved.new.self) ≡ gone_of was.outlet ++ was.kept.items =
    ap (λ l. entries_of l) handed
    ∙ entries_more (sent c.is_full.new.self) (record { setup = was.setup; entries = taken })
    ∙ ap (λ l. entries_of l ++ taken.items) looked
    ∙ ap (λ v. entries_of (sent outlet) ++ v.items) c.replace-entries.ensures.value
    ∙ sym (ap (λ o. gone_of o ++ was.kept.items) c.in-Some.is) in
    let all : entries_of (sent c.push_reserved.new.self) ++ c.replace-entries.new.dest.items ≡ gone_of was.outlet ++ was.kept.items =
    ap (λ v. entries_of (sent c.push_reserved.new.self) ++ v.items) c.replace-entries.ensures.after
    ∙ ap (λ l. entries_of (sent c.push_reserved.new.self) ++ l) c.new.ensures.items
    ∙ append-nil _
    ∙ more in
    let before = subst (λ o. HasSetup was.setup o) c.in-Some.is c.self.invariant.setups in
    record {
      legal = subst (λ (l : List (Entry _)). Legal means (opened was.setup) l was.stream) (sym all) c.self.invariant.legal;
      setups = rw (handed, looked) (setups_more was.setup (sent outlet) (record { setup = was.setup; entries = taken }) refl before);
      whole = λ no. absurd (true≢false (sym no));
    }
