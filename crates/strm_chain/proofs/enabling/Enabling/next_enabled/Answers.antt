use Rattle.std.proofs.Common.{◌≡◌, ◌∙◌, ◌∷◌, ◌<◌, true, false, Some, length, is_some, refl, ap, sym}
use Rattle.strm_queue.specs.Run.{with_place}
use Rattle.strm_chain_ends.specs.declared.place.NextQueue.{NextQueue}
use Rattle.strm_chain_ends.specs.Next.{next_of}
use Rattle.strm_chain_ends.specs.Flow.{offer_of, may, is_due}
use Rattle.strm_chain.specs.Number.{queue_number, place_number, place_of}
use Rattle.strm_chain.specs.Enabled.{Enabled, MarksWanted}
use Rattle.strm_chain_ends.proofs.FitLemmas.{told_of, told_there, untold}
use Rattle.strm_chain.proofs.EnablingLemmas.{ready_moves, ready_empty, ready_waits, places_moves}
use Rattle.strm_chain.proofs.enabling.Enabling.next_enabled.Goals as goal

pub returns-then-may-clause-ready : goal.returns-then-may-clause-ready
returns-then-may-clause-ready g c =
    let n = c.in_ok-next.field-0 in
    let rest = c.next.new.self.items in
    let before : c.args.self.now.run.items ≡ n ∷ rest = sym (ap (λ (v : Enabled). v.run.items) c.self.view_is) ∙ c.in_ok-next.ensures.first.0 in
    let items : c.enable.new.self.run.items ≡ with_place rest (place_number (place_of n)) = c.enable.ensures.items ∙ ap (λ p. with_place rest (place_number p)) c.place_of-place.ensures in
    λ ready. ready_moves g.M.Kind.Kinds.means c.args.ends.now.image c.args.self.now c.enable.new.self n rest before items (c.enable.ensures.wanted ∙ ap (λ (v : Enabled). v.wanted) c.self.view_is) ready

pub returns-then-may-clause-places : goal.returns-then-may-clause-places
returns-then-may-clause-places g c =
    let n = c.in_ok-next.field-0 in
    let rest = c.next.new.self.items in
    let before : c.args.self.now.run.items ≡ n ∷ rest = sym (ap (λ (v : Enabled). v.run.items) c.self.view_is) ∙ c.in_ok-next.ensures.first.0 in
    let items : c.enable.new.self.run.items ≡ with_place rest (place_number (place_of n)) = c.enable.ensures.items ∙ ap (λ p. with_place rest (place_number p)) c.place_of-place.ensures in
    λ all. places_moves c.args.ends.now.image n c.args.self.now.run.items rest c.enable.new.self.run.items before items all

pub returns-else-may-clause-ready : goal.returns-else-may-clause-ready
returns-else-may-clause-ready g c =
    let image = c.args.ends.now.image in
    let n = c.in_ok-next.field-0 in
    let rest = c.next.new.self.items in
    let here = c.place_of-place.ensures in
    let before : c.args.self.now.run.items ≡ n ∷ rest = sym (ap (λ (v : Enabled). v.run.items) c.self.view_is) ∙ c.in_ok-next.ensures.first.0 in
    let was : c.self.inside.wanted ≡ c.args.self.now.wanted = ap (λ (v : Enabled). v.wanted) c.self.view_is in
    let wanted : MarksWanted image (place_of n) c.args.self.now.wanted c.mark_wanted.new.self.wanted = rw (← was, ← here) c.mark_wanted.ensures.wanted in
    let few : (q : NextQueue) → next_of image (place_of n) ≡ Some q → queue_number q < length c.args.self.now.wanted = rw (← was, ← here) c.mark_wanted.ensures.few in
    let told = sym c.in-Some.ensures.value ∙ ap Some c.if-may.false in
    let holds : is_some (offer_of g.M.Kind.Kinds.means image (place_of n)) ≡ true = rw (← here) (told_there _ _ false told) in
    let still : may g.M.Kind.Kinds.means image (place_of n) ≡ false = rw (← here) (told_of _ _ told) in
    let rests : is_due g.M.Kind.Kinds.means image (place_of n) ≡ false = rw (← here) (c.in-Some.ensures.rests (ap Some c.if-may.false)) in
    λ ready. ready_waits g.M.Kind.Kinds.means image c.args.self.now c.mark_wanted.new.self n rest c.mark_wanted.ensures.ordinary few before (ap (λ r. r.items) c.mark_wanted.ensures.run) wanted holds still rests ready

pub returns-in_default-clause-ready : goal.returns-in_default-clause-ready
returns-in_default-clause-ready g c =
    let image = c.args.ends.now.image in
    let n = c.in_ok-next.field-0 in
    let rest = c.next.new.self.items in
    let here = c.place_of-place.ensures in
    let before : c.args.self.now.run.items ≡ n ∷ rest = sym (ap (λ (v : Enabled). v.run.items) c.self.view_is) ∙ c.in_ok-next.ensures.first.0 in
    let empty : is_some (offer_of g.M.Kind.Kinds.means image (place_of n)) ≡ false = rw (← here) (untold _ _ (sym c.in_default.ensures.value)) in
    λ ready. ready_empty g.M.Kind.Kinds.means image c.args.self.now (record { run = c.next.new.self; wanted = c.self.inside.wanted }) n rest before refl (ap (λ (v : Enabled). v.wanted) c.self.view_is) empty ready
