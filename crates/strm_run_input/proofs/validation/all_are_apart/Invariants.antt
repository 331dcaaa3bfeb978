use Rattle.std.proofs.Common.{◌≡◌, ℕ, ◌<◌, true, length, get_or}
use Rattle.strm_run_input.specs.declared.run_link.RunLink.{RunLink}
use Rattle.strm_run_input.specs.Resolve.{are_apart}
use Rattle.strm_run_input.proofs.validation.all_are_apart.Given as goal

-- each so far is apart from all behind it
abbrev pub invariant-loop-i : goal.invariant-loop-i
invariant-loop-i l =
    (k j : ℕ) (d : RunLink) → k < l.i → k < j → j < length l.links → are_apart (get_or l.links k d) (get_or l.links j d) ≡ true
