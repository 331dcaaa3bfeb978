use Rattle.std.proofs.Common.{◌≡◌, ℕ, ◌++◌, ◌≤◌, Option, get_or, length, Vec, Global}
use Rattle.std.specs.Vec.Iter.{into_iter_items, into_iter_len}
use Rattle.strm_run_callers.specs.Account.{AccountValue}
use Rattle.strm_run_callers.specs.Feeding.{FeedResultValue}
use Rattle.strm_run.specs.Inside.Ending.{streams_of, HaveParts}
use Rattle.strm_run.proofs.EndingLemmas.{AreUntaken}
use Rattle.strm_run.proofs.finished.finished_streams.Given as goal

-- the streams so far are due with their parts, and those of the others are left
abbrev pub invariant-loop-shared : goal.invariant-loop-shared
invariant-loop-shared g l = record {
  left : into_iter_len l.shared-iterator ≡ length (into_iter_items l.shared-iterator);
  place : l.at ≡ length l.yielded;
  many : length l.results.items ≡ length g.N.RunName.run.setups;
  due : streams_of l.all.items ≡ l.yielded;
  others : AreUntaken g.N.RunName.run (l.yielded ++ into_iter_items l.shared-iterator) l.at l.accounts.items;
  accounts : (k : ℕ) (d : Vec (AccountValue g.row.M-Kind.Denot) Global) → l.at ≤ k → get_or l.accounts.items k d ≡ get_or l.fn.accounts.items k d;
  results : (k : ℕ) (d : Option FeedResultValue) → l.at ≤ k → get_or l.results.items k d ≡ get_or l.fn.results.items k d;
  parts : HaveParts l.all.items l.fn.accounts.items l.fn.results.items;
}
