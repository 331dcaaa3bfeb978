-- What follows from the kind of a message for the queues of a module.
use Rattle.std.proofs.Common.{◌≡◌, false, refl}
use Rattle.strm_msg.specs.Kind.{is_high}
use Rattle.strm_msg.specs.declared.kind.MsgKind.{MsgKind}
use Rattle.strm_msg.specs.declared.kind.MsgKind.TheVariants.{MFlush}
use Rattle.strm_chain_end.specs.Pair.{QueuePair, flushed_pair}

-- only a flush empties queues, and it is high
pub flushed_pair-ordinary : {K : Type 0} (s : QueuePair K) (kind : MsgKind) → is_high kind ≡ false → flushed_pair s kind ≡ s
flushed_pair-ordinary s (MFlush r w band) h = cc
flushed_pair-ordinary s kind h = refl
