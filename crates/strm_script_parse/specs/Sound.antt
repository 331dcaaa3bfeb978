-- The soundness of each plan that is read from a script: it meets all conditions of a run, and everything
-- that it names is there.
use Rattle.std.specs.Prelude.{◌≡◌, ◌≤◌, ◌<◌, ℕ, ◌==◌, ◌&&◌, not, Bool, true, false, Option, Some, None, List, length, All, AllPairs, IfSome, slice_get}
use Rattle.strm_msg.specs.Kind.{is_from_line}
use Rattle.strm_msg.specs.declared.words.End.{End}
use Rattle.strm_module.specs.Driver.{has_end, is_line, is_wire}
use Rattle.strm_head_calls.specs.Setup.{is_fit, is_ring}
use Rattle.strm_head_calls.specs.declared.setup.Setup.{Setup}
use Rattle.strm_script_parse.specs.Plan.{Streams, Call, Process, Fed, Linked, Whole}
use Rattle.strm_script_parse.specs.declared.draft.TheConstants.{MOST_STREAMS, MOST_PROCESSES}

-- each stream can be opened
abbrev pub AreSetups : Streams → Type 0
AreSetups streams = All (λ stream. (is_fit stream.1 ≡ true) × (is_ring stream.1 ≡ true)) streams

-- each message of each feed is of a kind that comes from a line
abbrev pub AreFromLine : List Fed → Type 0
AreFromLine feeds = All (λ feed. All (λ m. is_from_line m.kind ≡ true) feed.messages) feeds

-- whether the stream is there, and has this end
abbrev pub end_is_there : Option (List ℕ × Setup) → End → Bool
end_is_there None end = false
end_is_there (Some stream) end = has_end stream.1.driver end

-- whether the stream is there, and is a line or a wire
abbrev pub line_is_there : Option (List ℕ × Setup) → Bool
line_is_there None = false
line_is_there (Some stream) = is_line stream.1.driver

-- each call is on a stream and an end that are there
abbrev pub AreCallsThere : {K : Type 0} → Streams → List (Call K) → Type 0
AreCallsThere streams calls = All (λ call. end_is_there (slice_get streams call.stream) call.end ≡ true) calls

-- each call of each process is on a stream and an end that are there
abbrev pub AreProcessesThere : {K : Type 0} → Streams → List (Process K) → Type 0
AreProcessesThere streams processes = All (λ process. AreCallsThere streams process.calls) processes

-- each await of a process is of a line or a wire; they are in order of their calls, and none is of a call past
-- the next one
pub record AreAwaits {K : Type 0} (streams : Streams) (process : Process K) : Type 0 where
  pub lines : All (λ one. line_is_there (slice_get streams one.stream) ≡ true) process.awaits
  pub order : AllPairs (λ one other. one.call ≤ other.call) process.awaits
  pub calls : All (λ one. one.call ≤ length process.calls) process.awaits

-- each feed is for a line or a wire
abbrev pub AreLinesThere : Streams → List Fed → Type 0
AreLinesThere streams feeds = All (λ feed. line_is_there (slice_get streams feed.stream) ≡ true) feeds

-- no two feeds are for the same stream
abbrev pub AreOnce : List Fed → Type 0
AreOnce feeds = AllPairs (λ one other. one.stream ≡ other.stream → ⊥) feeds

-- no feed is for this stream
abbrev pub IsUnfed : List Fed → ℕ → Type 0
IsUnfed feeds number = All (λ other. other.stream ≡ number → ⊥) feeds

-- whether the stream is there, and is a wire
abbrev pub wire_is_there : Option (List ℕ × Setup) → Bool
wire_is_there None = false
wire_is_there (Some stream) = is_wire stream.1.driver

-- whether a process carries on both links
abbrev pub is_by_one : Option ℕ → Option ℕ → Bool
is_by_one None other = false
is_by_one (Some one) None = false
is_by_one (Some one) (Some other) = one == other

-- whether two links lead to two wires, and no process carries on both from the same wire
abbrev pub are_apart : Linked → Linked → Bool
are_apart one other = not (one.to == other.to) && not (is_by_one one.by other.by && (one.from == other.from))

-- each link leads from a wire to a wire that has no feed, each two are apart, and the process that carries on
-- one is one of so many
pub record AreLinked (streams : Streams) (feeds : List Fed) (processes : ℕ) (links : List Linked) : Type 0 where
  pub from : All (λ link. wire_is_there (slice_get streams link.from) ≡ true) links
  pub to : All (λ link. wire_is_there (slice_get streams link.to) ≡ true) links
  pub unfed : All (λ link. IsUnfed feeds link.to) links
  pub apart : AllPairs (λ one other. are_apart one other ≡ true) links
  pub by : All (λ link. IfSome link.by (λ by. by < processes)) links

-- everything that a run asks of a plan, and everything that it looks up there
pub record IsSound {K : Type 0} (plan : Whole K) : Type 0 where
  pub setups : AreSetups plan.streams
  pub few_streams : length plan.streams ≤ MOST_STREAMS
  pub few_processes : length plan.processes ≤ MOST_PROCESSES
  pub messages : AreFromLine plan.feeds
  pub calls : AreProcessesThere plan.streams plan.processes
  pub awaits : All (λ process. AreAwaits plan.streams process) plan.processes
  pub lines : AreLinesThere plan.streams plan.feeds
  pub once : AreOnce plan.feeds
  pub links : AreLinked plan.streams plan.feeds (length plan.processes) plan.links
