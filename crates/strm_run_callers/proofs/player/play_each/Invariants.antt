use Rattle.std.proofs.Common.{◌≡◌, ◌++◌, length}
use Rattle.std.specs.Vec.Iter.{into_iter_items, into_iter_len}
use Rattle.strm_run_callers.proofs.player.play_each.Given as goal

-- the callers so far have played their scripts
abbrev pub invariant-loop-player : goal.invariant-loop-player
invariant-loop-player g l = record {
  left : into_iter_len l.player-iterator ≡ length (into_iter_items l.player-iterator);
  rest : l.yielded ++ into_iter_items l.player-iterator ≡ l.fn.players.items;
  played : l.all.items ≡ l.yielded;
}
