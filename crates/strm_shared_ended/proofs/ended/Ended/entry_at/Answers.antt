use Rattle.std.proofs.Common.{◌≡◌, ◌<◌, Some, get_or, length, slice_get, sym, ap, ◌∙◌, subst}
use Rattle.strm_shared_ended.proofs.PlaceLemmas.{entry_before, entry_none, found_or, none_own, stands_at, stands_nowhere, stands_within}
use Rattle.strm_shared_ended.proofs.ended.Ended.entry_at.Goals as goal

pub returns-in_err-places : goal.returns-in_err-places
returns-in_err-places g c =
    let above = rw c.deref.ensures.value at c.in_err-places.ensures.lookup.3 in
    rw (← c.self.view_is, c.from_residual.ensures) (entry_none c.self.inside.history.items c.args.caller c.args.number (none_own _ c.args.caller c.self.inside.history.items above c.self.invariant.places.seated))

pub returns-in_err-place : goal.returns-in_err-place
returns-in_err-place g c =
    let places = rw c.deref.ensures.value at c.in_ok-places.ensures.lookup in
    let stand = c.self.invariant.places.each c.args.caller c.in_ok-places.places.now places.3.0 in
    let less = c.in_ok-before.ensures in
    let above = rw c.deref-2.ensures.value at c.in_err-place.ensures.lookup.3 in
    rw (← c.self.view_is, c.from_residual-in_err-place.ensures) (entry_before c.self.inside.history.items c.args.caller c.args.number c.in_ok-before.before less.0 less.1 ∙ stands_nowhere _ _ _ c.in_ok-before.before (rw (← places.3.1 c.in_ok-places.places.now) at stand) above)

pub index-requires : goal.index-requires
index-requires g c =
    let places = rw c.deref.ensures.value at c.in_ok-places.ensures.lookup in
    let stand = c.self.invariant.places.each c.args.caller c.in_ok-places.places.now places.3.0 in
    let place = rw c.deref-2.ensures.value at c.in_ok-place.ensures.lookup in
    let within = stands_within c.in_ok-places.places.now.items c.self.inside.history.items _ c.in_ok-before.before 0 (rw (← places.3.1 c.in_ok-places.places.now) at stand) place.3.0 in
    subst (λ n. c.in_ok-place.field-0.now < n) (sym c.self.inside.history.ok.0) (subst (λ n. n < length c.self.inside.history.items) (sym (place.3.1 0)) within)

pub returns : goal.returns
returns g c =
    let places = rw c.deref.ensures.value at c.in_ok-places.ensures.lookup in
    let stand = c.self.invariant.places.each c.args.caller c.in_ok-places.places.now places.3.0 in
    let place = rw c.deref-2.ensures.value at c.in_ok-place.ensures.lookup in
    let less = c.in_ok-before.ensures in
    let history = c.self.inside.history.items in
    let at = stands_at c.in_ok-places.places.now.items history _ c.in_ok-before.before 0 (rw (← places.3.1 c.in_ok-places.places.now) at stand) place.3.0 in
    let within = stands_within c.in_ok-places.places.now.items history _ c.in_ok-before.before 0 (rw (← places.3.1 c.in_ok-places.places.now) at stand) place.3.0 in
    let below = subst (λ n. n < length history) (sym (place.3.1 0)) within in
    let index : c.index.result.now ≡ get_or history c.in_ok-place.field-0.now c.index.result.now = c.index.ensures in
    rw (← c.self.view_is)
    (entry_before history c.args.caller c.args.number c.in_ok-before.before less.0 less.1
    ∙ at
    ∙ ap (λ n. slice_get history n) (sym (place.3.1 0))
    ∙ found_or history c.in_ok-place.field-0.now c.index.result.now below
    ∙ ap (λ e. Some e) (sym index ∙ sym c.entry.ensures))
