-- A ring, a feeder and its feed, as a contract sees them.
use Rattle.std.specs.Prelude.{ℕ, Option, Some, None, List, [], ◌∷◌, ◌++◌, if◌then◌else◌}
use Rattle.strm_msg.specs.Count.{one_more}
use Rattle.strm_msg.specs.Message.{Msg}
use Rattle.strm_module.specs.Driver.{is_line}
use Rattle.strm_head_calls.specs.declared.setup.Setup.{Setup}
use Rattle.strm_shared_ring.specs.Name.{RingName}

-- a ring that has no owner yet: the setup of the stream that it is for, and its name if that is a line
pub record RingValue : Type 0 where
  pub setup : Setup
  pub name : Option RingName

-- a feed so far: the number of the stream, the number of offers, and the messages that were accepted
pub record FeedValue : Type 0 where
  pub number : ℕ
  pub offers : ℕ
  pub accepted : List Msg

-- a feeder: the feed so far, and the number of further messages for which it knows the ring to have room
pub record FeederValue : Type 0 where
  pub feed : FeedValue
  pub room : ℕ

-- a feeder that has offered nothing
abbrev pub new_feeder : ℕ → ℕ → FeederValue
new_feeder number room = record { feed = record { number = number; offers = 0; accepted = [] }; room = room }

-- a feed after one more offer, which was not accepted, or was
abbrev pub with_offer : FeedValue → FeedValue
with_offer feed = record feed { offers = one_more feed.offers }

abbrev pub with_accepted : FeedValue → Msg → FeedValue
with_accepted feed m = record feed { offers = one_more feed.offers; accepted = feed.accepted ++ m ∷ [] }

-- the feeder of a line, that has offered nothing, with all of its ring free; the other drivers have none
abbrev pub fresh_feeder : ℕ → Setup → Option FeederValue
fresh_feeder number setup = if is_line setup.driver then Some (new_feeder number setup.ring) else None

-- the messages that the feeder had accepted, if there was one
abbrev pub accepted_of : Option FeedValue → List Msg
accepted_of None = []
accepted_of (Some feed) = feed.accepted
