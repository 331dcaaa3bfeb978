use Rattle.std.proofs.Common.{◌≡◌, length}
use Rattle.std.specs.Vec.Iter.{into_iter_items, into_iter_len}
use Rattle.strm_run_input.specs.Scripts.{in_blocks}
use Rattle.strm_run_callers.specs.Play.{IsPlayer}
use Rattle.strm_run_callers.proofs.player.Player.play.Given as goal

-- the calls that are left are those that the seats have not made
abbrev pub invariant-loop-block : goal.invariant-loop-block
invariant-loop-block g l = record {
  left : into_iter_len l.block-iterator ≡ length (into_iter_items l.block-iterator);
  number : l.caller.number ≡ l.fn.self;
  player : IsPlayer g.N.RunName.run l.caller.number (in_blocks (into_iter_items l.block-iterator) l.last.items) l.caller.accounts.items;
}
