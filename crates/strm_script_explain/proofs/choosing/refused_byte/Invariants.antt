use Rattle.std.proofs.Common.{◌≡◌, ℕ, ◌<◌, true, get_or}
use Rattle.strm_script_text.specs.Bytes.{is_allowed}
use Rattle.strm_script_explain.proofs.choosing.refused_byte.Given as goal

-- the bytes so far are allowed
abbrev pub invariant-loop-at : goal.invariant-loop-at
invariant-loop-at l = (k : ℕ) → k < l.at → is_allowed (get_or l.line k 0) ≡ true
