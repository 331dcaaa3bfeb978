use Rattle.std.proofs.Common.{◌≡◌, true, ap, ◌∙◌, arith}
use Rattle.std.specs.List.{list_all}
use Rattle.strm_queue.specs.Lanes.{Ranked, is_of_rank, spare_of}
use Rattle.strm_queue.proofs.PlaceLemmas.{lane_at}
use Rattle.strm_queue.proofs.ChangeLemmas.{stood, changed-laned, unspent, unchanged, stays-empty, spare-there, on_ok}
use Rattle.strm_queue.proofs.lanes.reserve_at.Goals as goal

stays_laned : goal.returns-clause-laned
stays_laned c =
    let lanes = c.find_or_make.new.lanes.items in
    let lane = c.index_mut-lane.result.now in
    let is = c.index_mut-lane.ensures.value in
    let within = c.in_ok-at.ensures.place.0 in
    let stands : list_all (is_of_rank lane.rank) c.reserve.new.self.messages ≡ true = rw c.reserve.ensures.messages (stood lanes c.in_ok-at.at lane c.reserve.new.self within is c.reserve.ensures.rank c.in_ok-at.ensures.laned) in
    changed-laned lanes c.in_ok-at.at lane c.reserve.new.self within is c.reserve.ensures.rank c.in_ok-at.ensures.laned stands

pub returns-clause-laned : goal.returns-clause-laned
returns-clause-laned c = stays_laned c

pub returns-clause-messages : goal.returns-clause-messages
returns-clause-messages c =
    unchanged c.find_or_make.new.lanes.items c.in_ok-at.at c.index_mut-lane.result.now c.reserve.new.self c.in_ok-at.ensures.place.0 c.index_mut-lane.ensures.value c.reserve.ensures.rank c.reserve.ensures.messages ∙ c.in_ok-at.ensures.messages

pub returns-clause-kept : goal.returns-clause-kept
returns-clause-kept c = λ other.
    omega (arith, c.in_ok-at.ensures.room other, unspent c.find_or_make.new.lanes.items c.in_ok-at.at c.index_mut-lane.result.now c.reserve.new.self c.in_ok-at.ensures.place.0 c.index_mut-lane.ensures.value c.reserve.ensures.rank c.reserve.ensures.kept other)

pub returns-clause-empty : goal.returns-clause-empty
returns-clause-empty c = λ n empty.
    stays-empty c.find_or_make.new.lanes.items c.in_ok-at.at c.index_mut-lane.result.now c.reserve.new.self c.in_ok-at.ensures.place.0 c.index_mut-lane.ensures.value c.reserve.ensures.rank (λ none. c.reserve.ensures.messages ∙ none) n (c.in_ok-at.ensures.empty n empty)

pub returns-clause-room : goal.returns-clause-room
returns-clause-room c =
    let lane = c.index_mut-lane.result.now in
    let rank : c.reserve.new.self.rank ≡ c.args.rank = c.reserve.ensures.rank ∙ ap (λ (x : Ranked). x.rank) c.index_mut-lane.ensures.value ∙ c.in_ok-at.ensures.place.1 lane in
    let there = spare-there c.args.rank c.find_or_make.new.lanes.items c.in_ok-at.at c.reserve.new.self (stays_laned c) c.in_ok-at.ensures.place.0 rank in
    on_ok c.reserve.result _ _ (λ some. omega (arith, there, some)) c.reserve.ensures.room

pub returns-clause-enough : goal.returns-clause-enough
returns-clause-enough c = λ some.
    let there : spare_of c.args.rank c.find_or_make.new.lanes.items ≡ c.index_mut-lane.result.now.spare = ap (λ (x : Ranked). x.spare) (lane_at c.args.rank c.find_or_make.new.lanes.items c.in_ok-at.at c.index_mut-lane.result.now c.in_ok-at.ensures.laned c.in_ok-at.ensures.place c.index_mut-lane.ensures.value) in
    c.reserve.ensures.enough (omega (arith, some, there, c.in_ok-at.ensures.room c.args.rank))
