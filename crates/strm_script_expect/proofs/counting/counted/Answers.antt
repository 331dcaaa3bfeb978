use Rattle.std.proofs.Common.{◌+◌, ℕ, length, ap, ◌∙◌}
use Rattle.std.proofs.lemmas.List.{length_push}
use Rattle.strm_script_expect.proofs.CountingLemmas.{counted_more, numbered_more, still_many}
use Rattle.strm_script_expect.proofs.counting.counted.Goals as goal

pub loop-stream-preserved : goal.loop-stream-preserved
loop-stream-preserved c =
    let was = c.loop-stream.invariant in
    let streams = c.args.streams.now in
    let i = c.loop-stream.stream-index in
    let counts = c.loop-stream.counts in
    let new = c.count.new.counts in
    let many = length c.args.counts.now in
    record {
      many = still_many streams i c.loop-stream-test.true counts new many was.many was.counted c.count.ensures.inside c.count.ensures.outside;
      counted = counted_more streams i c.loop-stream-test.true counts new many was.many was.counted c.count.ensures.inside c.count.ensures.outside;
      as_many = rw c.in_ok-push.ensures.items (length_push c.loop-stream.all.items c.count.result ∙ ap (λ (n : ℕ). n + 1) was.as_many);
      each = rw (c.in_ok-push.ensures.items, c.count.ensures.count) (numbered_more streams i c.loop-stream-test.true counts new many was.many was.counted c.count.ensures.inside c.count.ensures.outside c.loop-stream.all.items was.as_many was.each);
    }
