use Rattle.std.proofs.Common.{◌≡◌, true, ap, arith, inl, inr}
use Rattle.strm_queue.specs.Lanes.{Ranked, IsPlace, spare_of}
use Rattle.strm_queue.proofs.LanesLemmas.{is_absent, lane_of-absent}
use Rattle.strm_queue.proofs.FrontLemmas.{insert-empty}
use Rattle.strm_queue.proofs.PlaceLemmas.{place_or_absent, messages-insert, is_laned-insert, spare-insert}
use Rattle.strm_queue.proofs.lanes.find_or_make.Goals as goal

pub returns-in_err-insert-clause-enough : goal.returns-in_err-insert-clause-enough
returns-in_err-insert-clause-enough c = λ some.
    let lanes = c.args.lanes.now.items in
    elim (place_or_absent c.args.rank lanes c.requires) [
      | inl found ↦ let here : IsPlace c.args.rank c.place_of-at.result lanes = rw (c.place_of-at.ensures.value, c.as_slice.ensures.value) found in let both = c.if-is_lane_at.ensures.1 (rw c.as_slice-2.ensures.value here) in cc
      | inr absent ↦ let none : spare_of c.args.rank lanes ≡ 0 = ap (λ (x : Ranked). x.spare) (lane_of-absent c.args.rank lanes absent) in absurd (omega (arith, none, some))
    ]

pub returns-clause-laned : goal.returns-clause-laned
returns-clause-laned c =
    let lanes = c.args.lanes.now.items in
    elim (place_or_absent c.args.rank lanes c.requires) [
      | inl found ↦ let here : IsPlace c.args.rank c.place_of-at.result lanes = rw (c.place_of-at.ensures.value, c.as_slice.ensures.value) found in let both = c.if-is_lane_at.ensures.1 (rw c.as_slice-2.ensures.value here) in cc
      | inr absent ↦
          let other : is_absent c.new.result.rank lanes ≡ true = rw c.new.ensures.rank absent in
          rw (c.in_ok-insert.ensures.items, c.place_of-at.ensures.value, c.as_slice.ensures.value, ← c.new.ensures.rank) (is_laned-insert c.new.result c.new.ensures.messages lanes (c.requires) other)
    ]

pub returns-clause-messages : goal.returns-clause-messages
returns-clause-messages c = rw c.in_ok-insert.ensures.items (messages-insert c.new.result c.new.ensures.messages c.args.lanes.now.items c.place_of-at.result)

pub returns-clause-room : goal.returns-clause-room
returns-clause-room c =
    let lanes = c.args.lanes.now.items in
    elim (place_or_absent c.args.rank lanes c.requires) [
      | inl found ↦ let here : IsPlace c.args.rank c.place_of-at.result lanes = rw (c.place_of-at.ensures.value, c.as_slice.ensures.value) found in let both = c.if-is_lane_at.ensures.1 (rw c.as_slice-2.ensures.value here) in cc
      | inr absent ↦
          let other : is_absent c.new.result.rank lanes ≡ true = rw c.new.ensures.rank absent in
          λ rank. rw c.in_ok-insert.ensures.items (spare-insert c.new.result c.new.ensures.messages rank lanes c.place_of-at.result other)
    ]

pub returns-clause-empty : goal.returns-clause-empty
returns-clause-empty c = λ n. rw c.in_ok-insert.ensures.items (insert-empty c.new.result c.new.ensures.messages c.args.lanes.now.items c.place_of-at.result n)
