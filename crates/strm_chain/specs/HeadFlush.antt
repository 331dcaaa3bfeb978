-- The effects of a flush that a head sends down (Programmer's Guide: STREAMS, "Flush Handling").
use Rattle.std.specs.Prelude.{◌≡◌, ℕ, Bool, Option}
use Rattle.strm_msg.specs.Message.{bare}
use Rattle.strm_msg.specs.declared.kind.MsgKind.TheVariants.{MFlush}
use Rattle.strm_msg.specs.declared.words.End.{End}
use Rattle.strm_module.specs.Builtin.{builtin}
use Rattle.strm_module.specs.declared.kind.Kind.{Kind}
use Rattle.strm_chain_ends.specs.Image.{Image}
use Rattle.strm_chain.specs.Deliver.{Sender, sent_down_with}

-- with the built-in kinds it does not matter which messages a head would send when such a flush comes back to
-- it
abbrev pub HeadSendsOnce : Type 0
HeadSendsOnce =
    (send other : Sender Kind) (e : End) (image : Image Kind) (r w : Bool) (band : Option ℕ)
    → sent_down_with builtin send e image (bare (MFlush r w band)) ≡ sent_down_with builtin other e image (bare (MFlush r w band))
