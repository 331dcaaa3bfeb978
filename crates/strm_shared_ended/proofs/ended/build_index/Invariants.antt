use Rattle.std.proofs.Common.{◌≡◌, ℕ, ◌<◌, ◌≤◌, get_or, length, take, Vec}
use Rattle.std.specs.Prelude.{count_by}
use Rattle.std.specs.Global.{Global}
use Rattle.strm_shared_entry.specs.Entry.{has_come_in}
use Rattle.strm_shared_entry.specs.Own.{own}
use Rattle.strm_shared_ended.specs.Ended.{StandAt}
use Rattle.strm_shared_ended.proofs.ended.build_index.Given as goal

-- where the calls of each caller stand so far, and how many messages came in
abbrev pub invariant-loop-at : goal.invariant-loop-at
invariant-loop-at g l = record {
  few : l.arrival_count ≤ l.at;
  arrival_count : l.arrival_count ≡ count_by (λ entry. has_come_in entry.event) (take l.at l.history);
  many : length l.places.items ≡ l.callers;
  each : (caller : ℕ) (d : Vec ℕ Global) → caller < l.callers → StandAt (get_or l.places.items caller d).items (take l.at l.history) (own caller (take l.at l.history));
}
