use Rattle.std.proofs.Common.{[], refl, sym, subst, ◌∙◌}
use Rattle.std.specs.Vec.Iter.{into_iter_items}
use Rattle.strm_run_input.specs.Scripts.{in_blocks}
use Rattle.strm_msg.proofs.LoopLemmas.{rest_shorter}
use Rattle.strm_run_callers.specs.Play.{IsPlayer}
use Rattle.strm_run_callers.proofs.PlayLemmas.{all_played, last_calls, next_block, none_left}
use Rattle.strm_run_callers.proofs.player.Player.play.Goals as goal

pub loop-block-preserved : goal.loop-block-preserved
loop-block-preserved g c =
    let was = c.loop-block.invariant in
    let last = c.into_blocks-blocks.result.1.items in
    let same = c.in_ok-play_block.ensures.number in
    record {
      left = rest_shorter _ _ _ _ _ was.left c.in-Some.ensures.steps.0 c.in-Some.ensures.steps.1;
      number = same ∙ was.number;
      player =
          subst (λ n. IsPlayer g.N.RunName.run n (in_blocks (into_iter_items c.next.new.self) last) c.play_block.new.caller.accounts.items) (sym same)
          (c.in_ok-play_block.ensures.made (in_blocks (into_iter_items c.next.new.self) last) (next_block g.N.RunName.run _ _ _ c.in-Some.block last _ c.in-Some.ensures.steps.0 was.player));
    }

pub play_block-requires-2-clause-next : goal.play_block-requires-2-clause-next
play_block-requires-2-clause-next g c κs within =
    let was = c.loop-block.invariant in
    let none = none_left _ _ was.left c.in-None.ensures.steps.0 in
    ([], last_calls g.N.RunName.run _ _ c.into_blocks-blocks.result.1.items _ none was.player)

pub finished-requires : goal.finished-requires
finished-requires g c =
    let run = g.N.RunName.run in
    let was = c.loop-block.invariant in
    let none = none_left _ _ was.left c.in-None.ensures.steps.0 in
    all_played run c.loop-block.caller.number [] _ refl (c.in_ok-play_block-2.ensures.made [] (last_calls run _ _ c.into_blocks-blocks.result.1.items _ none was.player))
