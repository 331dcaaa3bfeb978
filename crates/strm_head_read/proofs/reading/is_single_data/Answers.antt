use Rattle.std.proofs.Common.{refl, sym, ◌∙◌, arith}
use Rattle.std.proofs.lemmas.Bool.{leb-true}
use Rattle.strm_head_read.proofs.ReadLemmas.{is_alone, no_part}
use Rattle.strm_head_read.proofs.reading.is_single_data.Goals as goal

pub returns-then-len-eq1 : goal.returns-then-len-eq1
returns-then-len-eq1 c fits =
    let m = c.in-Some.m.now in
    let within = leb-true c.len-then-len-eq1.result c.from.result fits in
    is_alone c.args.max c.args.queue.now.messages m (sym c.len.ensures.count ∙ c.if-len-eq1.true) c.in-Some.ensures (no_part m.ctl (rw (← c.m.view_is) c.if-is_some.ensures)) (rw (← c.m.view_is, c.in-Some-dat.is) refl) (rw (← c.m.view_is, c.in-Some-dat.is) (omega (arith, within, c.from.ensures, c.len-then-len-eq1.ensures)))
