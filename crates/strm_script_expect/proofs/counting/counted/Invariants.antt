use Rattle.std.proofs.Common.{◌≡◌, ℕ, ◌<◌, get_or, length}
use Rattle.strm_script_expect.specs.Unmet.{number_on}
use Rattle.strm_script_expect.proofs.counting.counted.Given as goal

-- the calls so far have their numbers, and are counted stream by stream
abbrev pub invariant-loop-stream : goal.invariant-loop-stream
invariant-loop-stream l = record {
  many : length l.counts ≡ length l.fn.counts;
  counted : (s : ℕ) → s < length l.fn.counts → get_or l.counts s 0 ≡ number_on s l.streams l.stream-index;
  as_many : length l.all.items ≡ l.stream-index;
  each : (call d : ℕ) → call < l.stream-index → get_or l.streams call d < length l.fn.counts → get_or l.all.items call d ≡ number_on (get_or l.streams call d) l.streams call;
}
