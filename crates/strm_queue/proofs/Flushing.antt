-- A flush of all lanes, as far as it has come.
use Rattle.std.proofs.Common.{◌≡◌, ℕ, ◌+◌, ◌≤◌, true, List, length, take}
use Rattle.strm_queue.specs.Queue.{flush_of}
use Rattle.strm_queue.specs.Lanes.{Ranked, is_laned, messages_of, spare_of, StaysEmpty}

-- so many lanes are flushed, and so many messages removed
pub record IsFlushing (old lanes : List Ranked) (done removed : ℕ) : Type 0 where
  pub laned : is_laned lanes ≡ true
  pub len : length lanes ≡ length old
  pub flushed : flush_of (messages_of (take done lanes)) ≡ messages_of (take done lanes)
  pub same : flush_of (messages_of lanes) ≡ flush_of (messages_of old)
  pub empty : StaysEmpty old lanes
  pub count : removed + length (messages_of lanes) ≡ length (messages_of old)
  pub room : (other : ℕ) → spare_of other old ≤ spare_of other lanes
