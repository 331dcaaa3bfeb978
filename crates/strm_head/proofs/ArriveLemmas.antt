-- What a stream keeps when a message comes in from a line.
use Rattle.std.proofs.Common.{[]}
use Rattle.strm_msg.specs.Message.{Msg}
use Rattle.strm_msg.specs.declared.words.End.TheVariants.{A}
use Rattle.strm_module.specs.Kinds.{Meaning}
use Rattle.strm_chain_ends.specs.Image.{Image}
use Rattle.strm_head_calls.specs.declared.answer.Reply.TheVariants.{Line}
use Rattle.strm_head_calls.specs.declared.answer.Answer.TheVariants as Answers
use Rattle.strm_head.specs.declared.outcome.Arrived.{Arrived}
use Rattle.strm_head.specs.declared.outcome.Arrived.TheVariants.{Taken, Full, NoMem, Broke}
use Rattle.strm_head.specs.Inside.{IsWholeStream}
use Rattle.strm_head.specs.Arrive.{Arrives}
use Rattle.strm_head.proofs.KeptLemmas.{landed_kept}

-- for kinds of any meaning
module _ {K : Type 0} (means : Meaning K) where
  pub arrived_kept : (image : Image K) (m : Msg) (arrived : Arrived) (after : Image K) → IsWholeStream means image → Arrives means image m arrived after → IsWholeStream means after
  arrived_kept image m (Taken moves looks) after kept arrives =
      landed_kept means image A m (Answers.Done Line) moves [] after kept arrives.0
  arrived_kept image m (Full same) after kept arrives = rw arrives.2 kept
  arrived_kept image m (NoMem same) after kept arrives = rw arrives.2 kept
  arrived_kept image m Broke after kept arrives = landed_kept means image A m Answers.Broke [] [] after kept arrives
