use Rattle.std.proofs.Common.{◌≡◌, ◌+◌, ◌-◌, length}
use Rattle.strm_msg.specs.declared.words.Side.TheVariants as Side
use Rattle.strm_chain_end.specs.Modules.{identities_of}
use Rattle.strm_chain_end.specs.Next.{has_queue, first_from}
use Rattle.strm_chain_end.proofs.end.StreamEnd.next_below.Given as goal

abbrev pub invariant-loop-at : goal.invariant-loop-at
invariant-loop-at g l =
    let ids = identities_of l.self-inside.pairs.items in
    first_from (has_queue Side.Wr ids) (l.at + 1) (length ids - l.at) ≡ first_from (has_queue Side.Wr ids) (l.i + 1) (length ids - l.i)

abbrev pub decreases-loop-at : goal.decreases-loop-at
decreases-loop-at g l = length l.self-inside.pairs.items - l.at
