-- The offer of a place: the message that it would move now, or one of a module's own, as flow control sees it
-- (srv(9E), bcanput(9F), noenable(9F)).
use Rattle.std.specs.Prelude.{ℕ, true, false, Option, Some, None, List, slice_get, option_map, if◌then◌else◌}
use Rattle.strm_msg.specs.Kind.{is_high}
use Rattle.strm_msg.specs.Message.{Msg}
use Rattle.strm_msg.specs.declared.words.Side.{Side}
use Rattle.strm_module.specs.Kinds.{Meaning}
use Rattle.strm_module.specs.Shape.{queues_on}
use Rattle.strm_module.specs.declared.turn.Turn.{Turn}
use Rattle.strm_module.specs.declared.turn.Turn.TheVariants.{Serves, Shut, Sends}
use Rattle.strm_chain_end.specs.Pair.{QueuePair, list_on, service_turn}
use Rattle.strm_chain_end.specs.End.{EndState, pair_at}
use Rattle.strm_chain_end.specs.declared.offer.Offer.{Offer}

-- a message, by its class and its band
abbrev pub offered : Msg → Offer
offered m = record { is_high = is_high m.kind; band = m.band }

-- the first message that waits
abbrev pub first_offer : List Msg → Option Offer
first_offer q = option_map offered (slice_get q 0)

abbrev pub own_offer : Option ℕ → Offer
own_offer None = record { is_high = true; band = 0 }
own_offer (Some b) = record { is_high = false; band = b }

-- the offer, by the turn of a service: the message that waits, nothing, or something of the module's own
abbrev pub offer_by : Turn → List Msg → Option Offer
offer_by Serves q = first_offer q
offer_by Shut q = None
offer_by (Sends band) q = Some (own_offer band)

-- for kinds of any meaning
module _ {K : Type 0} (means : Meaning K) where
  -- a module has a service on a side with a queue alone
  abbrev pub offer_on : QueuePair K → Side → Option Offer
  offer_on s side = if queues_on s.shape side then offer_by (service_turn means s.shape side) (list_on s side) else None

  abbrev pub offer_found : Option (QueuePair K) → Side → Option Offer
  offer_found None side = None
  offer_found (Some s) side = offer_on s side

  abbrev pub turn_found : Option (QueuePair K) → Side → Turn
  turn_found None side = Serves
  turn_found (Some s) side = means.turn s.shape.kind side

  -- the turn of the service of a module's side
  abbrev pub turn_at : EndState K → ℕ → Side → Turn
  turn_at e i side = turn_found (pair_at e.modules i) side

  abbrev pub offer_at : EndState K → ℕ → Side → Option Offer
  offer_at e i side = offer_found (pair_at e.modules i) side
