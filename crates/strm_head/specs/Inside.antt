-- The state of a stream between calls.
use Rattle.std.specs.Prelude.{◌≡◌, true, false, None}
use Rattle.strm_msg.specs.declared.words.End.{End}
use Rattle.strm_chain_end.specs.declared.record.Record.{Record}
use Rattle.strm_module.specs.Kinds.{Meaning, AnswersStay}
use Rattle.strm_chain_ends.specs.Flow.{IsQuiet}
use Rattle.strm_chain_ends.specs.Image.{Image, end_of}
use Rattle.strm_chain_ends.specs.Order.{IsOrdered}
use Rattle.strm_head_ioctl.specs.Close.{HasItsEnds}

-- no answer to an ioctl is awaited, and none is kept
pub record IsIdle (state : Record) : Type 0 where
  pub pending : state.pending ≡ None
  pub kept : state.kept ≡ None

abbrev pub AreIdle : {K : Type 0} → Image K → Type 0
AreIdle image = (e : End) → IsIdle (end_of image e).state

-- no place must move, no head awaits an answer, and no message goes round a circle, unless the stream is
-- broken; and no end is open that the driver lacks
pub record IsWholeStream {K : Type 0} (means : Meaning K) (image : Image K) : Type 0 where
  pub quiet : image.broken ≡ false → IsQuiet means image
  pub idle : image.broken ≡ false → AreIdle image
  pub order : image.broken ≡ false → AnswersStay means → IsOrdered means image
  pub ends : HasItsEnds image

-- no call changes these before any queue moves: the driver and whether the stream is broken. No closed end is
-- opened (proofs alone cite it)
pub record OpensNone {K : Type 0} (old new : Image K) : Type 0 where
  pub driver : new.driver ≡ old.driver
  pub broken : new.broken ≡ old.broken
  pub ends : (e : End) → (end_of new e).is_open ≡ true → (end_of old e).is_open ≡ true
