use Rattle.std.proofs.Common.{◌≡◌, ◌∙◌, Some, None, ap, sym, refl}
use Rattle.strm_msg.specs.declared.words.Side.TheVariants as Side
use Rattle.strm_chain_end.specs.Canput.{fill_of, driver_fill}
use Rattle.strm_chain_end.specs.Next.{queue_at, or_at}
use Rattle.strm_chain_end.proofs.NextLemmas.{below_is}
use Rattle.strm_chain_end.proofs.end.StreamEnd.queue_below.Goals as goal

pub returns-in-Some : goal.returns-in-Some
returns-in-Some g c =
    let e = c.args.self.now.state in
    c.queue.ensures ∙ ap (or_at (queue_at e Side.Wr) (driver_fill c.args.driver e)) c.in-Some.ensures.value ∙ sym (below_is c.args.driver e c.args.i)

pub returns-in-Line : goal.returns-in-Line
returns-in-Line g c =
    let e = c.args.self.now.state in
    let list : None ≡ driver_fill c.args.driver e = rw (← c.self.view_is, c.in-Line.is) refl in
    list ∙ ap (or_at (queue_at e Side.Wr) (driver_fill c.args.driver e)) c.in-None.ensures.value ∙ sym (below_is c.args.driver e c.args.i)

pub returns-in-Echo : goal.returns-in-Echo
returns-in-Echo g c =
    let e = c.args.self.now.state in
    let list : Some (fill_of c.self.inside.drv) ≡ driver_fill c.args.driver e = rw (← c.self.view_is, c.in-Echo.is) refl in
    list ∙ ap (or_at (queue_at e Side.Wr) (driver_fill c.args.driver e)) c.in-None.ensures.value ∙ sym (below_is c.args.driver e c.args.i)

pub returns-in-Loop : goal.returns-in-Loop
returns-in-Loop g c =
    let e = c.args.self.now.state in
    let list : Some (fill_of c.self.inside.drv) ≡ driver_fill c.args.driver e = rw (← c.self.view_is, c.in-Loop.is) refl in
    list ∙ ap (or_at (queue_at e Side.Wr) (driver_fill c.args.driver e)) c.in-None.ensures.value ∙ sym (below_is c.args.driver e c.args.i)

pub returns-in-Wire : goal.returns-in-Wire
returns-in-Wire g c =
    let e = c.args.self.now.state in
    let list : Some (fill_of c.self.inside.drv) ≡ driver_fill c.args.driver e = rw (← c.self.view_is, c.in-Wire.is) refl in
    list ∙ ap (or_at (queue_at e Side.Wr) (driver_fill c.args.driver e)) c.in-None.ensures.value ∙ sym (below_is c.args.driver e c.args.i)
