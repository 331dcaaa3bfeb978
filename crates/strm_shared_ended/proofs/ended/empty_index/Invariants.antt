use Rattle.std.proofs.Common.{◌≡◌, [], All, length}
use Rattle.strm_shared_ended.proofs.ended.empty_index.Given as goal

-- so many lists so far, with nothing in them
abbrev pub invariant-loop : goal.invariant-loop
invariant-loop l = record {
  many : length l.all.items ≡ l.counter;
  none : All (λ places. places.items ≡ []) l.all.items;
}
