use Rattle.std.proofs.Common.{◌≡◌, ◌<◌, ◌∷◌, [], true, List, Some, None, MatchOption, Option, length, take, ap, refl, arith}
use Rattle.std.specs.List.{list_all}
use Rattle.strm_msg.specs.Message.{Msg}
use Rattle.strm_queue.specs.Lanes.{is_of_rank, messages_of}
use Rattle.strm_queue.proofs.ChangeLemmas.{stood, changed-laned, unspent, taken, left_standing}
use Rattle.strm_queue.proofs.lanes.take_first.Goals as goal

within : (c : goal.After-lanes-1) → c.in_ok-at.at < length c.args.lanes.now.items
within c = rw c.as_slice.ensures.value at c.in_ok-at.ensures.0

stands : (rank : _) (r : Option Msg) (old new : List Msg) → MatchOption r ((old ≡ []) × (new ≡ [])) (λ m. old ≡ m ∷ new) → list_all (is_of_rank rank) old ≡ true → list_all (is_of_rank rank) new ≡ true
stands rank None old new both h = rw both.1 refl
stands rank (Some m) old new e h = left_standing rank m new (rw e at h)

some_first : (r : Option Msg) (old new : List Msg) (all after : List Msg) → 0 < length old → MatchOption r ((old ≡ []) × (new ≡ [])) (λ m. old ≡ m ∷ new) → ((m : Msg) → old ≡ m ∷ new → all ≡ m ∷ after) → MatchOption r ((all ≡ []) × (after ≡ [])) (λ m. all ≡ m ∷ after)
some_first None old new all after some both f = absurd (let none = ap (λ (q : List Msg). length q) both.0 in omega (arith, some, none))
some_first (Some m) old new all after some e f = f m e

pub returns-clause-laned : goal.returns-clause-laned
returns-clause-laned c =
    let lanes = c.args.lanes.now.items in
    let lane = c.index_mut-lane.result.now in
    let is = c.index_mut-lane.ensures.value in
    let old = stood lanes c.in_ok-at.at lane c.pop.new.self (within c) is c.pop.ensures.rank c.requires.laned in
    changed-laned lanes c.in_ok-at.at lane c.pop.new.self (within c) is c.pop.ensures.rank c.requires.laned (stands lane.rank c.pop.result lane.messages c.pop.new.self.messages c.pop.ensures.first old)

pub returns-clause-first : goal.returns-clause-first
returns-clause-first c =
    let lanes = c.args.lanes.now.items in
    let lane = c.index_mut-lane.result.now in
    let is = c.index_mut-lane.ensures.value in
    let empty : messages_of (take c.in_ok-at.at lanes) ≡ [] = rw c.as_slice.ensures.value at c.in_ok-at.ensures.1 in
    let there = rw c.as_slice.ensures.value at c.in_ok-at.ensures.2 lane in
    let some : 0 < length lane.messages = rw is there in
    some_first c.pop.result lane.messages c.pop.new.self.messages _ _ some c.pop.ensures.first (λ m e. taken lanes c.in_ok-at.at lane c.pop.new.self (within c) is c.pop.ensures.rank m empty e)

pub returns-clause-room : goal.returns-clause-room
returns-clause-room c = unspent c.args.lanes.now.items c.in_ok-at.at c.index_mut-lane.result.now c.pop.new.self (within c) c.index_mut-lane.ensures.value c.pop.ensures.rank c.pop.ensures.room
