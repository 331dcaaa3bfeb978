-- The conditions under which a run can be played: its streams can be made, a possible number of workers, and
-- all that scripts, feeds and links name is there.
use Rattle.std.specs.Prelude.{◌≡◌, ℕ, ◌==◌, ◌&&◌, ◌||◌, not, nat_le, nat_lt, Bool, true, false, Option, Some, None, List, All, AllPairs, length, slice_get}
use Rattle.strm_msg.specs.declared.words.End.{End}
use Rattle.strm_msg.specs.Kind.{is_from_line}
use Rattle.strm_module.specs.Driver.{has_end, is_line, is_wire}
use Rattle.strm_head_calls.specs.declared.setup.Setup.{Setup}
use Rattle.strm_head_calls.specs.Setup.{is_fit, is_ring}
use Rattle.strm_run_input.specs.declared.script.ScriptCall.{ScriptCall}
use Rattle.strm_run_input.specs.declared.script.Feed.{Feed}
use Rattle.strm_run_input.specs.declared.run_link.RunLink.{RunLink}
use Rattle.strm_run_input.specs.declared.validation.TheConstants.{MOST_WORKERS}

-- a stream of this number has this end
abbrev pub end_is_there : Option Setup → End → Bool
end_is_there None at_end = false
end_is_there (Some setup) at_end = has_end setup.driver at_end

-- a stream of this number is a line
abbrev pub line_is_there : Option Setup → Bool
line_is_there None = false
line_is_there (Some setup) = is_line setup.driver

-- the stream and the end of each call are there
abbrev pub CallsResolve : {P : Type 0} → List Setup → List (ScriptCall P) → Type 0
CallsResolve setups calls = All (λ one. end_is_there (slice_get setups one.stream) one.call.end ≡ true) calls

-- a stream of this number is a wire
abbrev pub wire_is_there : Option Setup → Bool
wire_is_there None = false
wire_is_there (Some setup) = is_wire setup.driver

-- a link leads from a wire to a wire, and one of so many callers carries on it
abbrev pub link_is_there : List Setup → ℕ → RunLink → Bool
link_is_there setups callers link =
    wire_is_there (slice_get setups link.from) && wire_is_there (slice_get setups link.to) && nat_lt link.by callers

-- two links lead to two wires, and no caller carries on both from the same wire
abbrev pub are_apart : RunLink → RunLink → Bool
are_apart one other = not (one.to == other.to) && (not (one.by == other.by) || not (one.from == other.from))

-- links can be made: all is there that they name, each two are apart, and no wire that one leads to has a feed
pub record LinksResolve (setups : List Setup) (callers : ℕ) (feeds : List Feed) (links : List RunLink) : Type 0 where
  pub there : All (λ link. link_is_there setups callers link ≡ true) links
  pub apart : AllPairs (λ one other. are_apart one other ≡ true) links
  pub unfed : All (λ link. All (λ feed. link.to ≡ feed.stream → ⊥) feeds) links

-- the stream and the end of each call of each script are there, each feed is for a line, no two are for the
-- same, and the links can be made
pub record NamesResolve {P : Type 0} (setups : List Setup) (scripts : List (List (ScriptCall P))) (feeds : List Feed) (links : List RunLink) : Type 0 where
  pub calls : All (λ script. CallsResolve setups script) scripts
  pub lines : All (λ feed. line_is_there (slice_get setups feed.stream) ≡ true) feeds
  pub once : AllPairs (λ one other. one.stream ≡ other.stream → ⊥) feeds
  pub joined : LinksResolve setups (length scripts) feeds links

-- a stream can be made so: each low mark is below its high one, and the ring of a line holds 1 to 4096
-- messages
abbrev pub is_setup : Setup → Bool
is_setup setup = is_fit setup && is_ring setup

-- each message of a feed is of a kind that comes from a line
abbrev pub IsFromLine : Feed → Type 0
IsFromLine feed = All (λ m. is_from_line m.kind ≡ true) feed.messages.items

-- so is each of each feed
abbrev pub AreFromLine : List Feed → Type 0
AreFromLine feeds = All (λ feed. IsFromLine feed) feeds

-- a run has 1 to `MOST_WORKERS` workers
abbrev pub is_worker_count : ℕ → Bool
is_worker_count workers = nat_le 1 workers && nat_le workers MOST_WORKERS
