use Rattle.std.proofs.Common.{◌≡◌, ◌+◌, ◌≤◌, length}
use Rattle.strm_msg.specs.declared.words.Side.TheVariants as Side
use Rattle.strm_chain_end.specs.Modules.{identities_of}
use Rattle.strm_chain_end.specs.Next.{has_queue, last_below}
use Rattle.strm_chain_end.proofs.end.StreamEnd.next_above.Given as goal

abbrev pub invariant-loop-at : goal.invariant-loop-at
invariant-loop-at g l = record {
  same : last_below (has_queue Side.Rd (identities_of l.self-inside.pairs.items)) (l.at + 1) ≡ last_below (has_queue Side.Rd (identities_of l.self-inside.pairs.items)) l.i;
  within : l.at ≤ length l.self-inside.pairs.items;
}

abbrev pub decreases-loop-at : goal.decreases-loop-at
decreases-loop-at g l = l.at
