-- The feeders of a run, while it goes on.
use Rattle.std.specs.Prelude.{◌≡◌, ℕ, ◌+◌, ◌<◌, ◌^◌, true, None, List, [], ◌++◌, length, All}
use Rattle.strm_msg.specs.Message.{Msg}
use Rattle.strm_msg.specs.Kind.{is_from_line}
use Rattle.strm_shared_ring.specs.Feed.{FeedValue}
use Rattle.strm_run_input.specs.Scripts.{feed_of, link_to}
use Rattle.strm_run_callers.specs.RunName.{RunValue}
use Rattle.strm_link.specs.Subsequence.{IsSubsequence}

-- a feeder, by the number of its stream and the messages that it is still to offer
pub record FeedingValue : Type 0 where
  pub number : ℕ
  pub left : List Msg

-- a feeder that has offered none of its feed, of a stream to which no link leads
pub record IsUnfed {K : Type 0} (run : RunValue K) (feeder : FeedValue) (messages : List Msg) : Type 0 where
  pub there : feeder.number < length run.setups
  pub apart : link_to run.links feeder.number ≡ None
  pub begins : feeder.offers ≡ 0
  pub none : feeder.accepted ≡ []
  pub feed : messages ≡ feed_of run.feeds feeder.number

-- a feeder that has offered its feed up to these messages, each once, in order: what was accepted is a part of
-- what it has offered, and the others came back
pub record IsFeeding {K : Type 0} (run : RunValue K) (feeder : FeedValue) (left : List Msg) (overrun : ℕ) : Type 0 where
  pub there : feeder.number < length run.setups
  pub apart : link_to run.links feeder.number ≡ None
  pub few : length (feed_of run.feeds feeder.number) < 2 ^ 63
  pub kinds : All (λ m. is_from_line m.kind ≡ true) left
  pub offered : List Msg
  pub feed : offered ++ left ≡ feed_of run.feeds feeder.number
  pub offers : feeder.offers ≡ length offered
  pub part : IsSubsequence feeder.accepted offered
  pub all : length feeder.accepted + overrun ≡ length offered

-- a feeder that has offered as many messages as its feed has: each once, in order, since each offer is of the
-- feed's next one
pub record HasOffered {K : Type 0} (run : RunValue K) (feed : FeedValue) (overrun : ℕ) : Type 0 where
  pub there : feed.number < length run.setups
  pub apart : link_to run.links feed.number ≡ None
  pub offered : feed.offers ≡ length (feed_of run.feeds feed.number)
  pub part : IsSubsequence feed.accepted (feed_of run.feeds feed.number)
  pub all : length feed.accepted + overrun ≡ length (feed_of run.feeds feed.number)

-- the end of a feed, and the number of its messages that came back
pub record FeedResultValue : Type 0 where
  pub feed : FeedValue
  pub overrun : ℕ
