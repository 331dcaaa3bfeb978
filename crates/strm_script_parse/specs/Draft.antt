-- The invariant of a plan while it is read. By it the plan is sound wherever the script ends.
use Rattle.std.specs.Prelude.{◌≡◌, ◌≤◌, ℕ, ◌+◌, true, List, length, All, slice_get}
use Rattle.strm_msg.specs.Kind.{is_from_line}
use Rattle.strm_script_parse.specs.Plan.{Fed, Linked, Streams, Partial, Place, Nowhere, In_process, In_feed}
use Rattle.strm_script_parse.specs.Sound.{AreSetups, AreFromLine, line_is_there, AreCallsThere, AreProcessesThere, AreAwaits, AreLinesThere, AreOnce, IsUnfed, AreLinked}
use Rattle.strm_script_parse.specs.declared.draft.TheConstants.{MOST_STREAMS, MOST_PROCESSES}

-- the process or feed that goes on names streams that are there, and the feed is the first of its line or
-- wire
abbrev pub IsPlaceThere : {K : Type 0} → Streams → List Fed → Place K → Type 0
IsPlaceThere streams feeds Nowhere = Unit {0}
IsPlaceThere streams feeds (In_process process) = AreCallsThere streams process.calls × AreAwaits streams process
IsPlaceThere streams feeds (In_feed feed) = (line_is_there (slice_get streams feed.stream) ≡ true) × IsUnfed feeds feed.stream

-- no link leads to the stream of the feed that goes on
abbrev pub IsUnled : {K : Type 0} → List Linked → Place K → Type 0
IsUnled links Nowhere = Unit {0}
IsUnled links (In_process process) = Unit {0}
IsUnled links (In_feed feed) = All (λ link. link.to ≡ feed.stream → ⊥) links

-- the number of processes that go on
abbrev pub going : {K : Type 0} → Place K → ℕ
going Nowhere = 0
going (In_process process) = 1
going (In_feed feed) = 0

-- the messages of the feed that goes on are of kinds that come from a line
abbrev pub AreGoing : {K : Type 0} → Place K → Type 0
AreGoing Nowhere = Unit {0}
AreGoing (In_process process) = Unit {0}
AreGoing (In_feed feed) = All (λ m. is_from_line m.kind ≡ true) feed.messages

-- everything that the plan names so far is there, no stream has two feeds, and links can be made
pub record AreThere {K : Type 0} (d : Partial K) : Type 0 where
  pub calls : AreProcessesThere d.streams d.processes
  pub awaits : All (λ process. AreAwaits d.streams process) d.processes
  pub lines : AreLinesThere d.streams d.feeds
  pub once : AreOnce d.feeds
  pub going_on : IsPlaceThere d.streams d.feeds d.place
  pub links : AreLinked d.streams d.feeds (length d.processes + going d.place) d.links
  pub unled : IsUnled d.links d.place

-- a plan of which a run can be made if it ends here
pub record IsDraft {K : Type 0} (d : Partial K) : Type 0 where
  pub setups : AreSetups d.streams
  pub few_streams : length d.streams ≤ MOST_STREAMS
  pub few_processes : length d.processes + going d.place ≤ MOST_PROCESSES
  pub messages : AreFromLine d.feeds
  pub going_on : AreGoing d.place
  pub there : AreThere d

-- that many lines were read, and this is their plan so far
pub record IsAt {K : Type 0} (lines : ℕ) (d : Partial K) : Type 0 where
  pub kept : IsDraft d
  pub modules : d.modules ≤ lines
