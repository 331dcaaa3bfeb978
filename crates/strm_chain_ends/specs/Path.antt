-- The queue ahead of each place, in the order in which messages go (Programmer's Guide: STREAMS, "Flow
-- Control").
use Rattle.std.specs.Prelude.{◌+◌, Option, List, [], slice_get, if◌then◌else◌}
use Rattle.strm_msg.specs.Message.{Msg}
use Rattle.strm_msg.specs.declared.words.Side.TheVariants.{Rd, Wr}
use Rattle.strm_module.specs.Driver.{is_serviced, partner}
use Rattle.strm_chain_end.specs.End.{served_at}
use Rattle.strm_chain_end.specs.Canput.{Fill, above, below}
use Rattle.strm_chain_ends.specs.declared.place.Place.{Place}
use Rattle.strm_chain_ends.specs.Image.{Image, end_of, count_of}

-- the next queue in path order: the write queues from top to bottom, the driver, the read queues from bottom
-- to top, the head
abbrev pub ahead : {K : Type 0} → Image K → Place → Option Fill
ahead image (Place.Wr e i) = below image.driver (end_of image e) i
ahead image (Place.Drv e) =
    let p = partner image.driver e in above (end_of image p) (count_of image p + 1)
ahead image (Place.Rd e i) = above (end_of image e) i

-- the messages of a place, none of one that is not there: the list of a wire that is taken from outside is no
-- place, nor is a queue whose service procedure is the program's
abbrev pub messages_at : {K : Type 0} → Image K → Place → List Msg
messages_at image (Place.Wr e i) = served_at (end_of image e) i Wr
messages_at image (Place.Drv e) = if is_serviced image.driver e then (end_of image e).drv else []
messages_at image (Place.Rd e i) = served_at (end_of image e) i Rd

-- the message that a place would move
abbrev pub front_of : {K : Type 0} → Image K → Place → Option Msg
front_of image place = slice_get (messages_at image place) 0
