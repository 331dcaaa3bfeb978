use Rattle.std.proofs.Common.{◌<◌, length, length-set, ◌∙◌, arith}
use Rattle.strm_queue.proofs.ChangeLemmas.{flushed-laned, flush-empty, flush-one, flushed-more, counted, unspent}
use Rattle.strm_queue.proofs.lanes.flush_all.Goals as goal

within : (c : goal.After-lanes-1) → c.loop-i.i < length c.loop-i.lanes.items
within c = omega (arith, c.loop-i.invariant.len, c.loop-i-test.true, c.len-i-end.ensures)

pub overflow_add-removed : goal.overflow_add-removed
overflow_add-removed c =
    let sum = counted c.loop-i.lanes.items c.loop-i.i c.index_mut.result.now c.flush-removed.new.self (within c) c.index_mut.ensures.value c.flush-removed.ensures.rank in
    omega (arith, sum, c.loop-i.invariant.count, c.flush-removed.ensures.count, c.requires.most)

pub loop-i-preserved : goal.loop-i-preserved
loop-i-preserved c =
    let lanes = c.loop-i.lanes.items in
    let lane = c.index_mut.result.now in
    let new = c.flush-removed.new.self in
    let is = c.index_mut.ensures.value in
    let sum = counted lanes c.loop-i.i lane new (within c) is c.flush-removed.ensures.rank in
    let flush = c.flush-removed.ensures.messages in
    record {
      laned = flushed-laned lanes c.loop-i.i lane new (within c) is c.flush-removed.ensures.rank c.loop-i.invariant.laned flush;
      len = length-set lanes c.loop-i.i new ∙ c.loop-i.invariant.len;
      flushed = flushed-more lanes c.loop-i.i lane new (within c) is flush c.loop-i.invariant.flushed;
      same = flush-one lanes c.loop-i.i lane new (within c) is flush ∙ c.loop-i.invariant.same;
      empty = λ n empty. flush-empty lanes c.loop-i.i lane new (within c) is c.flush-removed.ensures.rank flush n (c.loop-i.invariant.empty n empty);
      count = omega (arith, sum, c.loop-i.invariant.count, c.flush-removed.ensures.count);
      room = λ other. omega (arith, c.loop-i.invariant.room other, unspent lanes c.loop-i.i lane new (within c) is c.flush-removed.ensures.rank c.flush-removed.ensures.room other);
    }
