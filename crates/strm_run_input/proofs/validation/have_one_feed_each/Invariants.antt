use Rattle.std.proofs.Common.{◌≡◌, ℕ, ◌<◌, length, get_or}
use Rattle.strm_run_input.specs.declared.script.Feed.{Feed}
use Rattle.strm_run_input.proofs.validation.have_one_feed_each.Given as goal

-- no later feed is for the stream of one so far
abbrev pub invariant-loop-i : goal.invariant-loop-i
invariant-loop-i l =
    (k j : ℕ) (d : Feed) → k < l.i → k < j → j < length l.feeds → (get_or l.feeds k d).stream ≡ (get_or l.feeds j d).stream → ⊥
