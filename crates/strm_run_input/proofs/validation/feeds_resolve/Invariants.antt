use Rattle.std.proofs.Common.{◌≡◌, ℕ, ◌<◌, true, get_or}
use Rattle.std.specs.Prelude.{slice_get}
use Rattle.strm_run_input.specs.declared.script.Feed.{Feed}
use Rattle.strm_run_input.specs.Resolve.{line_is_there}
use Rattle.strm_run_input.proofs.validation.feeds_resolve.Given as goal

-- each feed so far is for a line
abbrev pub invariant-loop-feed : goal.invariant-loop-feed
invariant-loop-feed l =
    (k : ℕ) (d : Feed) → k < l.feed-index → line_is_there (slice_get l.setups (get_or l.feeds k d).stream) ≡ true
