use Rattle.std.proofs.Common.{◌≡◌, ◌<◌, true, ap, sym, ◌∙◌, subst, arith}
use Rattle.std.specs.List.{list_all}
use Rattle.std.specs.Cmp.Derive.{both_true}
use Rattle.strm_msg.specs.Message.{rank_of}
use Rattle.strm_queue.specs.Lanes.{Ranked, IsPlace, is_of_rank, spare_of}
use Rattle.strm_queue.proofs.PlaceLemmas.{lane_at}
use Rattle.strm_queue.proofs.RoomLemmas.{spare-capped}
use Rattle.strm_queue.proofs.ChangeLemmas.{on_any_err, stood, changed-laned, changed-spare, unspent, unchanged, stays-empty, put-before}
use Rattle.strm_queue.proofs.lanes.push_first_of_rank.Goals.{After-push_front}
use Rattle.strm_queue.proofs.lanes.push_first_of_rank.Goals as goal

-- the lane of the message's rank stands at the place
place : (c : After-push_front) → IsPlace (rank_of c.args.m) c.in-Ok.at c.find_or_make.new.lanes.items
place c = rw (← c.rank_of.ensures.rank) c.in-Ok.ensures.place

its_rank : (c : After-push_front) → c.index_mut-lane.result.now.rank ≡ rank_of c.args.m
its_rank c = ap (λ (x : Ranked). x.rank) c.index_mut-lane.ensures.value ∙ (place c).1 c.index_mut-lane.result.now

stands : (c : After-push_front) → is_of_rank c.index_mut-lane.result.now.rank c.args.m ≡ true
stands c = rw (its_rank c, ← c.rank_of.ensures.rank) c.rank_of.ensures.stands

stood_there : (c : After-push_front) → list_all (is_of_rank c.index_mut-lane.result.now.rank) c.index_mut-lane.result.now.messages ≡ true
stood_there c = stood c.find_or_make.new.lanes.items c.in-Ok.at c.index_mut-lane.result.now c.push_front.new.self (place c).0 c.index_mut-lane.ensures.value c.push_front.ensures.rank c.in-Ok.ensures.laned

pub returns-clause-laned : goal.returns-clause-laned
returns-clause-laned c =
    let d = (goal.at.returns-clause-laned c).After-push_front in
    changed-laned c.find_or_make.new.lanes.items c.in-Ok.at c.index_mut-lane.result.now c.push_front.new.self (place d).0 c.index_mut-lane.ensures.value c.push_front.ensures.rank c.in-Ok.ensures.laned (rw c.in_ok-push_front.ensures.ok (both_true (stands d) (stood_there d)))

pub returns-clause-ok : goal.returns-clause-ok
returns-clause-ok c =
    let d = (goal.at.returns-clause-ok c).After-push_front in
    rw (← c.in-Ok.ensures.messages) (put-before c.find_or_make.new.lanes.items c.in-Ok.at c.index_mut-lane.result.now c.push_front.new.self (place d).0 c.index_mut-lane.ensures.value c.push_front.ensures.rank c.args.m c.in-Ok.ensures.laned (its_rank d) c.in_ok-push_front.ensures.ok)

pub returns-clause-spent : goal.returns-clause-spent
returns-clause-spent c = λ other.
    let d = (goal.at.returns-clause-spent c).After-push_front in
    omega (arith, c.in-Ok.ensures.room other, changed-spare c.find_or_make.new.lanes.items c.in-Ok.at c.index_mut-lane.result.now c.push_front.new.self (place d).0 c.index_mut-lane.ensures.value c.push_front.ensures.rank 1 c.in_ok-push_front.ensures.spent other)

pub returns-in_err-push_front-clause-laned : goal.returns-in_err-push_front-clause-laned
returns-in_err-push_front-clause-laned c =
    let d = (goal.at.returns-in_err-push_front-clause-laned c).After-push_front in
    changed-laned c.find_or_make.new.lanes.items c.in-Ok.at c.index_mut-lane.result.now c.push_front.new.self (place d).0 c.index_mut-lane.ensures.value c.push_front.ensures.rank c.in-Ok.ensures.laned (rw c.in_err-push_front.ensures.err (stood_there d))

pub returns-in_err-push_front-clause-err : goal.returns-in_err-push_front-clause-err
returns-in_err-push_front-clause-err c =
    let d = (goal.at.returns-in_err-push_front-clause-err c).After-push_front in
    on_any_err c.from_residual.result _ (unchanged c.find_or_make.new.lanes.items c.in-Ok.at c.index_mut-lane.result.now c.push_front.new.self (place d).0 c.index_mut-lane.ensures.value c.push_front.ensures.rank c.in_err-push_front.ensures.err ∙ c.in-Ok.ensures.messages)

pub returns-in_err-push_front-clause-room : goal.returns-in_err-push_front-clause-room
returns-in_err-push_front-clause-room c = λ some.
    let d = (goal.at.returns-in_err-push_front-clause-room c).After-push_front in
    let here = spare-capped (rank_of c.args.m) c.args.lanes.now.items (omega (arith, c.rank_of.ensures.rank, c.rank_of.ensures.most)) some in
    let there : spare_of (rank_of c.args.m) c.find_or_make.new.lanes.items ≡ c.index_mut-lane.result.now.spare = ap (λ (x : Ranked). x.spare) (lane_at (rank_of c.args.m) c.find_or_make.new.lanes.items c.in-Ok.at c.index_mut-lane.result.now c.in-Ok.ensures.laned (place d) c.index_mut-lane.ensures.value) in
    let is_ok = c.in_err-push_front.ensures.room (omega (arith, here, there, c.in-Ok.ensures.room (rank_of c.args.m))) in
    cc

pub returns-in_err-push_front-clause-unspent : goal.returns-in_err-push_front-clause-unspent
returns-in_err-push_front-clause-unspent c =
    let d = (goal.at.returns-in_err-push_front-clause-unspent c).After-push_front in
    on_any_err c.from_residual.result _ (λ other. omega (arith, c.in-Ok.ensures.room other, unspent c.find_or_make.new.lanes.items c.in-Ok.at c.index_mut-lane.result.now c.push_front.new.self (place d).0 c.index_mut-lane.ensures.value c.push_front.ensures.rank c.in_err-push_front.ensures.unspent other))

pub returns-in_err-push_front-clause-empty : goal.returns-in_err-push_front-clause-empty
returns-in_err-push_front-clause-empty c =
    let d = (goal.at.returns-in_err-push_front-clause-empty c).After-push_front in
    on_any_err c.from_residual.result _ (λ n empty. stays-empty c.find_or_make.new.lanes.items c.in-Ok.at c.index_mut-lane.result.now c.push_front.new.self (place d).0 c.index_mut-lane.ensures.value c.push_front.ensures.rank (λ none. c.in_err-push_front.ensures.err ∙ none) n (c.in-Ok.ensures.empty n empty))

pub returns-in_default-clause-room : goal.returns-in_default-clause-room
returns-in_default-clause-room c = λ some.
    let here = spare-capped (rank_of c.args.m) c.args.lanes.now.items (omega (arith, c.rank_of.ensures.rank, c.rank_of.ensures.most)) some in
    c.in_default.ensures.enough (subst (λ rank. 0 < spare_of rank c.args.lanes.now.items) (sym c.rank_of.ensures.rank) here)
