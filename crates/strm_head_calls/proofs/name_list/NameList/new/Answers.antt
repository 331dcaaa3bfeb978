use Rattle.std.proofs.Common.{arith}
use Rattle.strm_head_calls.proofs.name_list.NameList.new.Goals as goal

pub push-requires : goal.push-requires
push-requires c =
    let short = c.requires in
    let counted = c.loop-name.invariant.counted in
    let below = c.loop-name-test.true in
    omega arith
