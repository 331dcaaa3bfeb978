-- The state of an end as a poll reports it.
use Rattle.std.specs.Prelude.{true, Option, Some, None}
use Rattle.strm_msg.specs.declared.words.End.{End}
use Rattle.strm_module.specs.declared.kind.Kind.{Kind}
use Rattle.strm_chain_ends.specs.Image.{Image}
use Rattle.strm_head_calls.specs.declared.answer.Polled.{Polled}
use Rattle.strm_head_ioctl.specs.Poll.{nothing, polled}

-- the state at a number; one that is no end counts as a closed end
abbrev pub polled_at : Image Kind → Option End → Polled
polled_at old None = record nothing { nval = true }
polled_at old (Some e) = polled old e
