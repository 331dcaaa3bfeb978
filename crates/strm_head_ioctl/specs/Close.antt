-- An end is closed (close(2); Programmer's Guide: STREAMS, "Loop-Around Driver").
use Rattle.std.specs.Prelude.{◌≡◌, Bool, true, false}
use Rattle.strm_msg.specs.Message.{bare}
use Rattle.strm_msg.specs.declared.kind.MsgKind.TheVariants.{MHangup}
use Rattle.strm_msg.specs.declared.words.End.{End}
use Rattle.strm_module.specs.Kinds.{Meaning}
use Rattle.strm_module.specs.Driver.{has_end, partner}
use Rattle.strm_chain_end.specs.End.{shapes_of}
use Rattle.strm_chain_end.specs.Change.{closed}
use Rattle.strm_chain_ends.specs.Image.{Image, end_of, with_end, count_of}
use Rattle.strm_chain.specs.declared.spot.Spot.TheVariants.{Up}
use Rattle.strm_chain.specs.Deliver.{deliver}
use Rattle.strm_head_calls.specs.declared.answer.Reply.TheVariants as Reply
use Rattle.strm_head_calls.specs.Effect.{Effect, effect_taking}
use Rattle.strm_head_ioctl.specs.Names.{names_of}

-- an end, if it is open, is the driver's
abbrev pub HasItsEnd : {K : Type 0} → Image K → End → Type 0
HasItsEnd image e = (end_of image e).is_open ≡ true → has_end image.driver e ≡ true

-- the ends that are open are the driver's
abbrev pub HasItsEnds : {K : Type 0} → Image K → Type 0
HasItsEnds image = (e : End) → HasItsEnd image e

-- the image of a closed end: the modules are gone, with the messages in their queues and in the head's list;
-- the driver's list stays
abbrev pub closed_image : {K : Type 0} → Image K → End → Image K
closed_image image e = with_end image e (closed (end_of image e))

-- whether a close hangs another end up: that of a loop which is still open
abbrev pub hangs_up : {K : Type 0} → Image K → End → Bool
hangs_up image e = (end_of (closed_image image e) (partner image.driver e)).is_open

-- for kinds of any meaning
module _ {K : Type 0} (means : Meaning K) where
  -- a hangup goes up from the driver to an end
  abbrev pub hung_up_if : Bool → Image K → End → Image K
  hung_up_if false image e = image
  hung_up_if true image e = deliver means image (Up e (count_of image e)) (bare MHangup)

  -- unless the end is closed
  abbrev pub hung_up : Image K → End → Image K
  hung_up image e = hung_up_if (end_of image e).is_open image e

  -- the image after a close: the other end of a loop is hung up. An echo and a line have no end but the one
  -- that was closed. On a broken stream nothing follows
  abbrev pub after_close : Bool → Image K → End → Image K
  after_close true image e = image
  after_close false image e = hung_up image (partner image.driver e)

  -- the same, by the image alone
  abbrev pub other_hung_up : Image K → End → Image K
  other_hung_up image e = after_close image.broken image e

  abbrev pub close_effect : Image K → End → Effect (Image K) K
  close_effect image e =
      effect_taking (after_close image.broken (closed_image image e) e) (Reply.Close (record { items = names_of (end_of image e) })) (shapes_of (end_of image e))
