use Rattle.std.proofs.Common.{◌≡◌, ℕ, ◌++◌, ◌≤◌, length, get_or, map, Vec, Global}
use Rattle.std.specs.Vec.Iter.{into_iter_items, into_iter_len}
use Rattle.strm_msg.specs.Message.{Msg}
use Rattle.strm_run.specs.Inside.Opening.{fed_below}
use Rattle.strm_run.proofs.feeds.feedings.Given as goal

-- the lines so far have a feeder, and what the others are fed is there
abbrev pub invariant-loop-feeder : goal.invariant-loop-feeder
invariant-loop-feeder g l = record {
  left : into_iter_len l.feeder-iterator ≡ length (into_iter_items l.feeder-iterator);
  rest : l.yielded ++ into_iter_items l.feeder-iterator ≡ l.fn.feeders.items;
  place : l.at ≡ length l.yielded;
  many : length l.feeds.items ≡ length g.N.RunName.run.setups;
  behind : (k : ℕ) (d : Vec Msg Global) → l.at ≤ k → get_or l.feeds.items k d ≡ get_or l.fn.feeds.items k d;
  lines : map (λ feeding. feeding.number) l.all.items ≡ fed_below g.N.RunName.run l.at;
}
