-- Flow control: when a place may move, when it must, and when nothing must (Programmer's Guide: STREAMS,
-- "Service Procedures" and "Flow Control"; getq(9F), bcanput(9F)).
use Rattle.std.specs.Prelude.{◌≡◌, ◌||◌, not, Bool, false, Option, Some, None}
use Rattle.strm_msg.specs.declared.words.Side.TheVariants.{Rd, Wr}
use Rattle.strm_module.specs.Kinds.{Meaning}
use Rattle.strm_module.specs.declared.turn.Turn.{Turn}
use Rattle.strm_module.specs.declared.turn.Turn.TheVariants.{Serves}
use Rattle.strm_chain_end.specs.Canput.{full_in, slack_in}
use Rattle.strm_chain_end.specs.Offer.{first_offer, turn_at, offer_at}
use Rattle.strm_chain_end.specs.declared.offer.Offer.{Offer}
use Rattle.strm_chain_ends.specs.declared.place.Place.{Place}
use Rattle.strm_chain_ends.specs.declared.place.Place.TheVariants as Places
use Rattle.strm_chain_ends.specs.Image.{Image, end_of}
use Rattle.strm_chain_ends.specs.Path.{ahead, messages_at}

abbrev pub may_front : {K : Type 0} → Image K → Place → Option Offer → Bool
may_front image place None = false
may_front image place (Some o) = o.is_high || not (full_in (ahead image place) o.band)

abbrev pub due_front : {K : Type 0} → Image K → Place → Option Offer → Bool
due_front image place None = false
due_front image place (Some o) = o.is_high || slack_in (ahead image place) o.band

-- for kinds of any meaning
module _ {K : Type 0} (means : Meaning K) where
  -- the offer of a place: of a driver its first message, of a module that of its service
  abbrev pub offer_of : Image K → Place → Option Offer
  offer_of image (Place.Wr e i) = offer_at means (end_of image e) i Wr
  offer_of image (Place.Drv e) = first_offer (messages_at image (Places.Drv e))
  offer_of image (Place.Rd e i) = offer_at means (end_of image e) i Rd

  -- the turn of the service of a place: a driver's takes the messages that wait
  abbrev pub turn_of : Image K → Place → Turn
  turn_of image (Place.Wr e i) = turn_at means (end_of image e) i Wr
  turn_of image (Place.Drv e) = Serves
  turn_of image (Place.Rd e i) = turn_at means (end_of image e) i Rd

  -- whether a place may move: its offer is high, or the queue ahead is not full in its band
  abbrev pub may : Image K → Place → Bool
  may image place = may_front image place (offer_of image place)

  -- whether a place must move: its offer is high, or the queue ahead has drained to its low mark in its band
  abbrev pub is_due : Image K → Place → Bool
  is_due image place = due_front image place (offer_of image place)

  -- no place must move
  abbrev pub IsQuiet : Image K → Type 0
  IsQuiet image = (place : Place) → is_due image place ≡ false

  -- no place may move
  abbrev pub NoneMay : Image K → Type 0
  NoneMay image = (place : Place) → may image place ≡ false
