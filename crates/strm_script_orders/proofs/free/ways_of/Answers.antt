use Rattle.std.proofs.Common.{◌≡◌, sym, ap, ◌∙◌, arith}
use Rattle.strm_script_orders.specs.Free.{ways}
use Rattle.strm_script_orders.proofs.WaysLemmas.{product_fits, ways_next, ways_none, ways_past}
use Rattle.strm_script_orders.proofs.free.ways_of.Goals as goal

pub loop-k-init : goal.loop-k-init
loop-k-init c = record { small = omega arith; row = sym (ways_none c.args.many) }

pub overflow_mul-next : goal.overflow_mul-next
overflow_mul-next c =
    let fits = product_fits c.from.result c.from-in-loop-k.result (omega (arith, c.loop-k.invariant.small)) (omega (arith, c.requires, c.loop-k-test.true)) in
    omega (arith, fits)

pub returns-then-next-from : goal.returns-then-next-from
returns-then-next-from c =
    let next = ways_next c.args.many c.loop-k.k c.loop-k.ways c.loop-k.invariant.row in
    let past = rw (c.from.ensures, c.from-in-loop-k.ensures, c.from-in-loop-k-2.ensures, c.from-in-loop-k-3.ensures, next) at c.if-next-from.true in
    ways_past c.args.many c.loop-k.k c.args.few _ c.loop-k-test.true past

pub loop-k-preserved : goal.loop-k-preserved
loop-k-preserved c = record {
  small = omega (arith, c.if-next-from.false, c.from-in-loop-k-3.ensures);
  row = rw (c.from.ensures, c.from-in-loop-k.ensures, c.from-in-loop-k-2.ensures) (ways_next c.args.many c.loop-k.k c.loop-k.ways c.loop-k.invariant.row);
}

pub returns : goal.returns
returns c =
    let last : c.loop-k.k ≡ c.args.few = omega (arith, c.loop-k-test.false, c.loop-k.auto.k-end) in
    let row = c.loop-k.invariant.row ∙ ap (ways c.args.many) last in
    omega (arith, row, c.loop-k.invariant.small)
