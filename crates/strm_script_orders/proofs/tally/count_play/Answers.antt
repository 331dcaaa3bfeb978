use Rattle.std.proofs.Common.{arith, ap, sym, ◌∙◌, slice_set}
use Rattle.std.specs.Str.{bytes_eq}
use Rattle.std.proofs.lemmas.List.Edits.{map_over_more}
use Rattle.strm_script_orders.specs.Tally.{GivenValue, with_play}
use Rattle.strm_script_orders.proofs.CountLemmas.{found_more, not_yet}
use Rattle.strm_script_orders.proofs.tally.count_play.Goals as goal

pub loop-given-preserved : goal.loop-given-preserved
loop-given-preserved c =
    let i = c.loop-given.given-index in
    let all = c.args.kept.now in
    let text = c.args.text.now in
    let given = c.given-item.result in
    let was = not_yet (with_play text) all c.loop-given.kept i given (omega arith) c.loop-given.invariant.counted c.given-item.is in
    record {
      found = found_more text all i given c.loop-given.found c.count-found.result (omega arith) c.loop-given.invariant.found (c.count-found.ensures.same ∙ ap (λ (g : GivenValue). bytes_eq text g.text) (sym c.given-item.is)) was;
      counted = ap (λ (g : GivenValue). slice_set c.loop-given.kept i g) (c.count-found.ensures.counted ∙ ap (with_play text) (sym c.given-item.is)) ∙ map_over_more (with_play text) all c.loop-given.kept i given (omega arith) c.loop-given.invariant.counted c.given-item.is;
    }
