use Rattle.std.proofs.Common.{◌<◌, length, sym, arith, length-append}
use Rattle.std.proofs.lemmas.List.{take_more}
use Rattle.strm_chain_ends.specs.Image.{end_of}
use Rattle.strm_head_ioctl.specs.Names.{names_of}
use Rattle.strm_head_ioctl.proofs.NameLemmas.{name_at, as_many_names}
use Rattle.strm_head_ioctl.proofs.names.names_of.Goals as goal

pub loop-i-preserved : goal.loop-i-preserved
loop-i-preserved g c =
    let before = c.loop-i.invariant in
    let found = rw c.unwrap-shape.ensures at c.shape.ensures in
    let end = end_of c.args.chain.now.image c.args.end in
    let named = name_at end.modules c.loop-i.i c.unwrap-shape.result.now c.new.result found in
    let all = as_many_names end.modules in
    let few = c.count-count.ensures.value in
    let test = c.loop-i-test.true in
    let below : c.loop-i.i < length (names_of end) = omega arith in
    record {
      named = rw (c.push.ensures.items, before.named, c.new.ensures, ← named) (sym (take_more (names_of end) c.loop-i.i c.new.result below));
      counted = grind (arith, length-append, c.push.ensures.len, before.counted);
    }
