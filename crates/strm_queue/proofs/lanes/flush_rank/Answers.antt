use Rattle.std.proofs.Common.{◌≡◌, ap, sym, ◌∙◌, arith}
use Rattle.strm_queue.specs.Lanes.{Ranked, IsPlace, is_of_rank}
use Rattle.strm_queue.proofs.ListLemmas.{none_flushed}
use Rattle.strm_queue.proofs.LanesLemmas.{lanes_filter}
use Rattle.strm_queue.proofs.ChangeLemmas.{flushed, flushed-laned, flush-empty, counted, unspent}
use Rattle.strm_queue.proofs.lanes.flush_rank.Goals as goal

place : (c : goal.After-lanes-1) → IsPlace c.args.rank c.in-Some.at c.args.lanes.now.items
place c = rw c.as_slice.ensures.value at c.in-Some.ensures

pub returns-in-Some-clause-laned : goal.returns-in-Some-clause-laned
returns-in-Some-clause-laned c = flushed-laned c.args.lanes.now.items c.in-Some.at c.index_mut.result.now c.flush.new.self (place c).0 c.index_mut.ensures.value c.flush.ensures.rank c.requires c.flush.ensures.messages

pub returns-in-Some-clause-messages : goal.returns-in-Some-clause-messages
returns-in-Some-clause-messages c =
    let rank : c.index_mut.result.now.rank ≡ c.args.rank = ap (λ (x : Ranked). x.rank) c.index_mut.ensures.value ∙ (place c).1 c.index_mut.result.now in
    rw (← rank) (flushed c.args.lanes.now.items c.in-Some.at c.index_mut.result.now c.flush.new.self (place c).0 c.index_mut.ensures.value c.flush.ensures.rank c.requires c.flush.ensures.messages)

pub returns-in-Some-clause-empty : goal.returns-in-Some-clause-empty
returns-in-Some-clause-empty c = flush-empty c.args.lanes.now.items c.in-Some.at c.index_mut.result.now c.flush.new.self (place c).0 c.index_mut.ensures.value c.flush.ensures.rank c.flush.ensures.messages

pub returns-in-Some-clause-count : goal.returns-in-Some-clause-count
returns-in-Some-clause-count c =
    let sum = counted c.args.lanes.now.items c.in-Some.at c.index_mut.result.now c.flush.new.self (place c).0 c.index_mut.ensures.value c.flush.ensures.rank in
    omega (arith, sum, c.flush.ensures.count)

pub returns-in-Some-clause-room : goal.returns-in-Some-clause-room
returns-in-Some-clause-room c = unspent c.args.lanes.now.items c.in-Some.at c.index_mut.result.now c.flush.new.self (place c).0 c.index_mut.ensures.value c.flush.ensures.rank c.flush.ensures.room

pub returns-in-None-clause-messages : goal.returns-in-None-clause-messages
returns-in-None-clause-messages c =
    let none = rw c.as_slice.ensures.value at c.in-None.ensures in
    sym (none_flushed (is_of_rank c.args.rank) _ (lanes_filter c.args.rank c.args.lanes.now.items c.requires ∙ none))
