use Rattle.std.proofs.Common.{◌≡◌, length}
use Rattle.std.specs.Vec.Iter.{into_iter_items, into_iter_len}
use Rattle.strm_run_callers.specs.Play.{HasPrefixCalls, KeepsLaterCalls}
use Rattle.strm_run_callers.proofs.player.play_block.Given as goal

-- the calls that are left of the block are the next ones, and behind them stand those that stood behind the
-- block
abbrev pub invariant-loop-one : goal.invariant-loop-one
invariant-loop-one g l = record {
  left : into_iter_len l.one-iterator ≡ length (into_iter_items l.one-iterator);
  number : l.caller.number ≡ l.fn.caller.number;
  next : HasPrefixCalls g.N.RunName.run l.caller.number (into_iter_items l.one-iterator) l.caller.accounts.items;
  others : KeepsLaterCalls g.N.RunName.run l.fn.caller.number l.fn.block.items l.fn.caller.accounts.items (into_iter_items l.one-iterator) l.caller.accounts.items;
}
