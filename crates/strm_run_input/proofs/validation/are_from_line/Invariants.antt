use Rattle.std.proofs.Common.{ℕ, ◌<◌, get_or}
use Rattle.strm_run_input.specs.declared.script.Feed.{Feed}
use Rattle.strm_run_input.specs.Resolve.{IsFromLine}
use Rattle.strm_run_input.proofs.validation.are_from_line.Given as goal

-- each feed so far is of messages that come from a line
abbrev pub invariant-loop-feed : goal.invariant-loop-feed
invariant-loop-feed l = (k : ℕ) (d : Feed) → k < l.feed-index → IsFromLine (get_or l.feeds k d)
