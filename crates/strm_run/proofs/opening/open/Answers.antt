use Rattle.std.proofs.Common.{◌≡◌, ◌+◌, ◌∷◌, ◌++◌, append_assoc, append-nil, length, ap, sym, ◌∙◌}
use Rattle.std.proofs.lemmas.List.{length_push, length-map, nil_from_length}
use Rattle.std.specs.Vec.Iter.{into_iter_items}
use Rattle.strm_head_calls.specs.Setup.{is_fit}
use Rattle.strm_shared_ring.specs.Feed.{RingValue}
use Rattle.strm_run_callers.specs.RunName.{ring_of}
use Rattle.strm_msg.proofs.LoopLemmas.{rest_shorter}
use Rattle.strm_run.proofs.OpeningLemmas.{kept_more, opened_all, ring_there, ring_setup, ring_named}
use Rattle.strm_run.proofs.opening.open.Goals as goal

pub new-requires-clause-marks : goal.new-requires-clause-marks
new-requires-clause-marks g c κs within =
    let was = c.loop-ring.invariant in
    let is : c.loop-ring.yielded ++ c.in-Some.ring ∷ into_iter_items c.next.new.self ≡ c.args.rings.items = sym (ap (λ l. c.loop-ring.yielded ++ l) c.in-Some.ensures.steps.0) ∙ was.rest in
    let there = ring_there g.N.RunName.run _ c.loop-ring.yielded _ c.in-Some.ring c.loop-ring.number c.requires.setups is was.place in
    let setup = ring_setup g.N.RunName.run _ c.loop-ring.yielded _ c.in-Some.ring c.loop-ring.number c.requires.setups is was.place c.in-Some.ring.setup in
    ap (λ s. is_fit s) (sym setup) ∙ c.requires.marks c.loop-ring.number c.in-Some.ring.setup there

pub new-requires-clause-name : goal.new-requires-clause-name
new-requires-clause-name g c κs within =
    let was = c.loop-ring.invariant in
    let is : c.loop-ring.yielded ++ c.in-Some.ring ∷ into_iter_items c.next.new.self ≡ c.args.rings.items = sym (ap (λ l. c.loop-ring.yielded ++ l) c.in-Some.ensures.steps.0) ∙ was.rest in
    ring_named g.N.RunName.run _ c.loop-ring.yielded _ c.in-Some.ring c.loop-ring.number c.requires.setups is was.place ∙ ap (λ l. ring_of l c.loop-ring.number) (sym c.requires.rings)

pub loop-ring-preserved : goal.loop-ring-preserved
loop-ring-preserved g c =
    let was = c.loop-ring.invariant in
    let next = c.in-Some.ensures.steps.0 in
    let is : c.loop-ring.yielded ++ c.in-Some.ring ∷ into_iter_items c.next.new.self ≡ c.args.rings.items = sym (ap (λ l. c.loop-ring.yielded ++ l) next) ∙ was.rest in
    let within = ring_there g.N.RunName.run _ c.loop-ring.yielded _ c.in-Some.ring c.loop-ring.number c.requires.setups is was.place in
    let setup = ring_setup g.N.RunName.run _ c.loop-ring.yielded _ c.in-Some.ring c.loop-ring.number c.requires.setups is was.place c.in-Some.ring.setup in
    record {
      left = rest_shorter _ _ _ _ _ was.left next c.in-Some.ensures.steps.1;
      rest = rw (append_assoc, ← next) was.rest;
      place = ap (λ n. n + 1) was.place ∙ sym (length_push _ _);
      opened = kept_more g.N.RunName.run c.loop-ring.number _ c.keep.new.streams.items _ c.keep.new.seats.items _ c.keep.new.feeders.items c.in-Some.ring.setup c.new.result was.opened within
          (rw (setup, c.requires.callers) c.new.ensures.shared)
          (rw c.requires.callers c.new.ensures.seats)
          (rw setup c.new.ensures.feeder)
          c.in_ok-keep.ensures.made c.in_ok-keep.ensures.streams c.in_ok-keep.ensures.seats c.in_ok-keep.ensures.feeders;
    }

pub returns : goal.returns
returns g c =
    let was = c.loop-ring.invariant in
    let none = nil_from_length _ (sym was.left ∙ c.in-None.ensures.steps.0) in
    opened_all g.N.RunName.run c.loop-ring.number _ _ _ was.opened
    (was.place ∙ ap (λ l. length l) (sym (append-nil c.loop-ring.yielded) ∙ ap (λ l. c.loop-ring.yielded ++ l) (sym none) ∙ was.rest) ∙ sym (length-map c.args.rings.items (λ (r : RingValue). r.setup)) ∙ ap (λ l. length l) c.requires.setups)
