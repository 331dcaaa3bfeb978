use Rattle.std.proofs.Common.{◌≡◌, ◌≤◌, ℕ, List, length, take}
use Rattle.strm_shared_entry.specs.Entry.{Entry}
use Rattle.strm_shared_entry.specs.Own.{own}
use Rattle.strm_shared_entry.specs.Taken.{taken}
use Rattle.strm_script_print.proofs.link.many_taken.Given as goal

-- the steps so far are counted, each of them once at most
pub record IsCounted {K : Type 0} (caller : ℕ) (history : List (Entry K)) (many seen : ℕ) : Type 0 where
  pub counted : many ≡ length (taken (own caller (take seen history)))
  pub few : many ≤ seen

abbrev pub invariant-loop-kept : goal.invariant-loop-kept
invariant-loop-kept g l = IsCounted l.caller l.history l.many l.kept-index
