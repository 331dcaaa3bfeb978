use Rattle.std.proofs.Common.{refl}
use Rattle.strm_run_callers.proofs.PlayLemmas.{on_ok, player_after, seat_next}
use Rattle.strm_run_callers.proofs.player.make_call.Goals as goal

pub call_on-made-requires-clause-next : goal.call_on-made-requires-clause-next
call_on-made-requires-clause-next g c κs within =
    let next = c.requires.next in
    seat_next g.N.RunName.run _ _ c.args.one _ _ refl next.1 c.index_mut-account.result.now c.index_mut-account.ensures.value

pub returns-clause-made : goal.returns-clause-made
returns-clause-made g c =
    on_ok _ _ c.call_on-made.result
    (λ counted others had. player_after g.N.RunName.run _ _ c.args.one others _ refl had c.index_mut-account.result.now c.call_on-made.new.account c.index_mut-account.ensures.value counted)
    c.call_on-made.ensures.seat
