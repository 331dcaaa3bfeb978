use Rattle.std.proofs.Common.{◌≡◌, ◌∙◌, Some, None, ap, sym, refl}
use Rattle.strm_msg.specs.declared.words.Side.TheVariants as Side
use Rattle.strm_chain_end.specs.Canput.{fill_of, head_fill}
use Rattle.strm_chain_end.specs.Next.{queue_at, or_at}
use Rattle.strm_chain_end.proofs.NextLemmas.{above_is}
use Rattle.strm_chain_end.proofs.end.StreamEnd.queue_above.Goals as goal

pub returns-in-Some : goal.returns-in-Some
returns-in-Some g c =
    let e = c.args.self.now.state in
    c.queue.ensures ∙ ap (or_at (queue_at e Side.Rd) (head_fill e)) c.in-Some.ensures.value ∙ sym (above_is e c.args.i)

pub returns-in-None : goal.returns-in-None
returns-in-None g c =
    let e = c.args.self.now.state in
    let head : Some (fill_of c.self.inside.head) ≡ head_fill e = rw (← c.self.view_is, c.if-self.true) refl in
    head ∙ ap (or_at (queue_at e Side.Rd) (head_fill e)) c.in-None.ensures.value ∙ sym (above_is e c.args.i)

pub returns-in-None-2 : goal.returns-in-None-2
returns-in-None-2 g c =
    let e = c.args.self.now.state in
    let head : None ≡ head_fill e = rw (← c.self.view_is, c.if-self.false) refl in
    head ∙ ap (or_at (queue_at e Side.Rd) (head_fill e)) c.in-None.ensures.value ∙ sym (above_is e c.args.i)
