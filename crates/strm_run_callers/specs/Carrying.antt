-- The links of a run: what goes over them, and what their callers know of it while the run goes on.
use Rattle.std.specs.Prelude.{◌≡◌, ℕ, ◌+◌, true, Option, Some, None, Box, List, [], ◌++◌, length, option_map, IfSome}
use Rattle.std.specs.Global.{Global}
use Rattle.strm_msg.specs.Message.{Msg}
use Rattle.strm_msg.specs.Kind.{is_from_line}
use Rattle.strm_link.specs.Link.{LinkValue, fresh, out_of, after_of}
use Rattle.strm_link.specs.Subsequence.{IsSubsequence}
use Rattle.strm_shared_entry.specs.Entry.{Entry}
use Rattle.strm_shared_entry.specs.Taken.{taken}
use Rattle.strm_shared.specs.Seat.{SeatValue}
use Rattle.strm_shared_ring.specs.Feed.{FeedValue}
use Rattle.strm_run_input.specs.declared.run_link.RunLink.{RunLink}
use Rattle.strm_run_input.specs.Scripts.{link_from, link_to}
use Rattle.strm_run_callers.specs.RunName.{RunValue}
use Rattle.strm_run_callers.specs.Account.{AccountValue}
use Rattle.strm_run_callers.specs.Feeding.{FeedResultValue}

-- ---- what goes over a link

-- what a link passes on of what was taken by these calls
abbrev pub passed_on : {K : Type 0} → RunLink → List (Entry K) → List Msg
passed_on link entries = out_of (fresh link.rule) (taken entries)

-- ---- the links of callers

-- a link, and the feeder of the wire that it leads to: the link behind the messages that went over it, the
-- feed so far, and the number of messages that came back
pub record CarrierValue : Type 0 where
  pub link : LinkValue
  pub feed : FeedValue
  pub overrun : ℕ

-- a link leads to the feeder's wire, and what it holds is of a kind that comes from a line
pub record IsCarrier {K : Type 0} (run : RunValue K) (link : LinkValue) (feed : FeedValue) : Type 0 where
  pub of : RunLink
  pub leads : link_to run.links feed.number ≡ Some of
  pub held : IfSome link.held (λ m. is_from_line m.kind ≡ true)

-- these messages were offered, each once, in order: what was accepted grew by a part of them, and the others
-- came back (no public clause cites it)
pub record Offers (old : CarrierValue) (messages : List Msg) (new : CarrierValue) : Type 0 where
  pub number : new.feed.number ≡ old.feed.number
  pub part : (given : List Msg) → IsSubsequence old.feed.accepted given → IsSubsequence new.feed.accepted (given ++ messages)
  pub all : length new.feed.accepted + new.overrun ≡ length old.feed.accepted + old.overrun + length messages

-- these messages have gone over a link, and what it passed on was offered (no public clause cites it)
pub record Carries (old : CarrierValue) (messages : List Msg) (new : CarrierValue) : Type 0 where
  pub link : new.link ≡ after_of old.link messages
  pub offered : Offers old (out_of old.link messages) new

-- the same where there is a link
abbrev pub CarriesOn : Option CarrierValue → List Msg → Option CarrierValue → Type 0
CarriesOn None messages None = Unit {0}
CarriesOn None messages (Some new) = ⊥
CarriesOn (Some old) messages None = ⊥
CarriesOn (Some old) messages (Some new) = Carries old messages new

-- a link in its box
abbrev pub carrier_in : Option (Box CarrierValue Global) → Option CarrierValue
carrier_in carrier = option_map (λ b. b.value) carrier

-- a feeder was given what a link passes on of what these calls have taken: each message once, in order. What
-- was accepted is a part of it, and the others came back
pub record HasPassedOn {K : Type 0} (link : RunLink) (entries : List (Entry K)) (feed : FeedValue) (overrun : ℕ) : Type 0 where
  pub part : IsSubsequence feed.accepted (passed_on link entries)
  pub all : length feed.accepted + overrun ≡ length (passed_on link entries)

-- all that a seat's calls have taken went over the link on which its caller carries
pub record IsCarrying {K : Type 0} (run : RunValue K) (seat : SeatValue) (entries : List (Entry K)) (carrier : CarrierValue) : Type 0 where
  pub of : RunLink
  pub from : link_from run.links seat.caller seat.number ≡ Some of
  pub leads : link_to run.links carrier.feed.number ≡ Some of
  pub passed : carrier.link ≡ after_of (fresh of.rule) (taken entries)
  pub given : HasPassedOn of entries carrier.feed carrier.overrun

-- so it is where there is a link
abbrev pub CarriesAll : {K : Type 0} → RunValue K → SeatValue → List (Entry K) → Option CarrierValue → Type 0
CarriesAll run seat entries None = Unit {0}
CarriesAll run seat entries (Some carrier) = IsCarrying run seat entries carrier

-- a carrier over which nothing has gone yet: the link on which a caller carries from a stream
pub record IsFreshCarrier {K : Type 0} (run : RunValue K) (caller stream : ℕ) (carrier : CarrierValue) : Type 0 where
  pub of : RunLink
  pub from : link_from run.links caller stream ≡ Some of
  pub leads : link_to run.links carrier.feed.number ≡ Some of
  pub link : carrier.link ≡ fresh of.rule
  pub none : carrier.feed.accepted ≡ []
  pub overrun : carrier.overrun ≡ 0

-- a link of a run can be given the feeder of the wire that it leads to: it is the one on which its caller
-- carries from its wire, the one that leads there, and nothing was offered (no public clause cites it)
pub record CanJoin {K : Type 0} (run : RunValue K) (link : RunLink) (feed : FeedValue) : Type 0 where
  pub from : link_from run.links link.by link.from ≡ Some link
  pub leads : link_to run.links feed.number ≡ Some link
  pub none : feed.accepted ≡ []

-- a link that no caller has yet: the caller that is to carry on it, and the number of the wire from which it
-- carries
pub record JointValue : Type 0 where
  pub by : ℕ
  pub from : ℕ

-- the result of a feed that a link has made of all that the calls of an account have taken
pub record IsCarried {K : Type 0} (run : RunValue K) (account : AccountValue K) (ended : FeedResultValue) : Type 0 where
  pub of : RunLink
  pub from : link_from run.links account.seat.caller account.seat.number ≡ Some of
  pub leads : link_to run.links ended.feed.number ≡ Some of
  pub given : HasPassedOn of account.entries ended.feed ended.overrun
